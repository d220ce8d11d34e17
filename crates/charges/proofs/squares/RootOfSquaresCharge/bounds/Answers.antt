use Rattle.std.proofs.Common.{◌≡◌, ℕ, ◌*◌, ◌<◌, ◌≤◌, true, false, ap, ◌∙◌, arith}
use native.Mathlib.Decide.{dec_le}
use Rattle.std.proofs.lemmas.Bool.{le-ltb, lt-ltb}
use Rattle.roots.specs.Root.{lower, upper}
use Rattle.roots.proofs.RootLaws.{upper_ge, upper_least, square_le}
use Rattle.charges.specs.Quotients.{passes}
use Rattle.charges.proofs.squares.RootOfSquaresCharge.bounds.Goals as goal

-- 16,777,215 squared is the largest total whose root is within the limit
over_most : (t : ℕ) → 281474943156225 < t → passes (upper (100 * (1 * 1 * t))) ≡ true
over_most t h =
    elim (dec_le (upper (100 * (1 * 1 * t))) 16777215) [
      | yes p ↦ absurd (let k = square_le (upper (100 * (1 * 1 * t))) 16777215 p in let z : ⊥ = omega (arith, upper_ge (100 * (1 * 1 * t))) in z)
      | no p ↦ lt-ltb 16777215 (upper (100 * (1 * 1 * t))) (omega arith)
    ]

within_most : (t : ℕ) → t ≤ 281474943156225 → passes (upper (100 * (1 * 1 * t))) ≡ false
within_most t h = le-ltb 16777215 (upper (100 * (1 * 1 * t))) (upper_least (100 * (1 * 1 * t)) 16777215 (omega arith))

pub returns-then-self-gt-MOST : goal.returns-then-self-gt-MOST
returns-then-self-gt-MOST c = over_most c.args.self.now.total c.if-self-gt-MOST.true

same : (t : ℕ) → 100 * t ≡ 100 * (1 * 1 * t)
same t = omega arith

pub returns : goal.returns
returns c =
    (within_most c.args.self.now.total c.if-self-gt-MOST.false, c.roots-pair.ensures.value ∙ ap (λ f. (lower f, upper f)) (same c.args.self.now.total))
