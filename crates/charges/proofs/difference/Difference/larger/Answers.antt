use Rattle.std.proofs.Common.{ℕ, ◌-◌, ◌*◌, ◌≤◌, mul-le-mul_left, arith}
use native.Mathlib.Nat.{mul-sub}
use Rattle.charges.proofs.difference.Difference.larger.Goals as goal

scaled : (k a b c d : ℕ) → a - b ≤ c - d → k * a - k * b ≤ k * c - k * d
scaled k a b c d h = omega (arith, mul-sub k a b, mul-sub k c d, mul-le-mul_left k h)

pub returns-then-saturating_sub : goal.returns-then-saturating_sub
returns-then-saturating_sub c = λ k. omega (arith, scaled k c.args.self.losses c.args.self.gains c.args.other.losses c.args.other.gains (omega arith))

pub returns-else-saturating_sub : goal.returns-else-saturating_sub
returns-else-saturating_sub c = λ k. omega (arith, scaled k c.args.other.losses c.args.other.gains c.args.self.losses c.args.self.gains (omega arith))
