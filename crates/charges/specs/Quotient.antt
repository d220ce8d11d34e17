-- Quotients rounded down and up. Assumes nothing.
use Rattle.std.specs.Prelude.{ℕ, ◌+◌, ◌-◌, ◌*◌, ◌/◌, ◌<◌, ◌≤◌}
use Rattle.std.proofs.Common.{arith, mul-le-mul_left, le-div_iff_mul-le, div-lt_iff_lt-mul}
use Rattle.charges.specs.Quotients.{over}

pub under_le : (a b : ℕ) → 0 < b → a / b * b ≤ a
under_le a b h = omega arith

pub under_greatest : (a b q : ℕ) → 0 < b → q * b ≤ a → q ≤ a / b
under_greatest a b q h k = (le-div_iff_mul-le h).1 k

pub over_ge : (a b : ℕ) → 0 < b → a ≤ over a b * b
over_ge a b h = omega arith

pub over_least : (a b q : ℕ) → 0 < b → a ≤ q * b → over a b ≤ q
over_least a b q h k = let l : over a b < q + 1 = (div-lt_iff_lt-mul h).1 (omega arith) in omega arith

pub under_over : (a b : ℕ) → 0 < b → a / b ≤ over a b
under_over a b h = under_greatest (a + (b - 1)) b (a / b) h (omega (arith, under_le a b h))

pub over_next : (a b : ℕ) → 0 < b → over a b ≤ a / b + 1
over_next a b h = over_least a b (a / b + 1) h (omega arith)

-- j times finer
pub under_finer : (j a b c : ℕ) → 0 < b → j * a ≤ c → j * (a / b) ≤ c / b
under_finer j a b c h le = let k = mul-le-mul_left j (under_le a b h) in under_greatest c b (j * (a / b)) h (omega arith)

pub over_finer : (j a b c : ℕ) → 0 < b → c ≤ j * a → over c b ≤ j * over a b
over_finer j a b c h le = let k = mul-le-mul_left j (over_ge a b h) in over_least c b (j * over a b) h (omega arith)
