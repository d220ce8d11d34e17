-- The two whole roots of a form, for every whole number. Assumes nothing.
use Rattle.std.specs.Prelude.{ℕ, zero, suc, ◌+◌, ◌*◌, ◌/◌, ◌≤◌, cond, nat_le}

-- the greatest n with n × n ≤ f, binary digit by binary digit; `fuel` is at least f
unfoldable pub root_by : ℕ → ℕ → ℕ
root_by zero f = 0
root_by (suc fuel) f = elim f [ zero ↦ 0 | suc g ↦ (let r : ℕ = 2 * root_by fuel (suc g / 4) in cond (nat_le ((r + 1) * (r + 1)) (suc g)) (r + 1) r) ]

-- the greatest n with 100 × n × n ≤ f
unfoldable pub lower : ℕ → ℕ
lower f = root_by (f / 100) (f / 100)

-- the least n with 100 × n × n ≥ f
unfoldable pub upper : ℕ → ℕ
upper f = cond (nat_le f (100 * (lower f * lower f))) (lower f) (lower f + 1)

-- the least q with q × q ≥ n
abbrev pub ceiling_root : ℕ → ℕ
ceiling_root n = upper (100 * n)

pub record Lower (f n : ℕ) : Type 0 where
  pub within : 100 * (n * n) ≤ f
  pub greatest : (m : ℕ) → 100 * (m * m) ≤ f → m ≤ n

pub record Upper (f n : ℕ) : Type 0 where
  pub reaches : f ≤ 100 * (n * n)
  pub least : (m : ℕ) → f ≤ 100 * (m * m) → n ≤ m

-- `lower` and `upper` are what their names say, of every whole number
abbrev pub RootsOfAll : Type 0
RootsOfAll = (f : ℕ) → Lower f (lower f) × Upper f (upper f)

-- q is the least whole number whose square is at least n
pub record Ceiling (n q : ℕ) : Type 0 where
  pub reaches : n ≤ q * q
  pub least : (m : ℕ) → n ≤ m * m → q ≤ m
