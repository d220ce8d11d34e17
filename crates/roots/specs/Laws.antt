-- What the roots of amounts xs under a table e keep to, against other amounts of as many members.
-- Assumes nothing.
use Rattle.std.specs.Prelude.{◌≡◌, ℕ, ◌+◌, ◌*◌, ◌≤◌, List, length}
use Rattle.roots.specs.Form.{at, added, form}
use Rattle.roots.specs.Root.{lower, upper, ceiling_root}

-- as many amounts, and R holds of the two at each place
pub record Each (R : ℕ → ℕ → Type 0) (xs ys : List ℕ) : Type 0 where
  pub as_many : length xs ≡ length ys
  pub each : (i : ℕ) → R (at xs i) (at ys i)

-- ys passes xs by at most ws, place by place
pub record Wider (xs ys ws : List ℕ) : Type 0 where
  pub lows : length xs ≡ length ws
  pub highs : length ys ≡ length ws
  pub each : (i : ℕ) → at ys i ≤ at xs i + at ws i

pub record Lawful (e : ℕ → ℕ → ℕ) (xs : List ℕ) : Type 0 where
  -- the upper root is the lower one or the next, and the same just where the root is exact
  pub order : lower (form e xs) ≤ upper (form e xs)
  pub close : upper (form e xs) ≤ lower (form e xs) + 1
  pub exact : 100 * (lower (form e xs) * lower (form e xs)) ≡ form e xs → upper (form e xs) ≡ lower (form e xs)
  pub inexact : upper (form e xs) ≡ lower (form e xs) → 100 * (lower (form e xs) * lower (form e xs)) ≡ form e xs
  -- both rise with the amounts
  pub lower_rises : (ys : List ℕ) → Each (λ x y. x ≤ y) xs ys → lower (form e xs) ≤ lower (form e ys)
  pub upper_rises : (ys : List ℕ) → Each (λ x y. x ≤ y) xs ys → upper (form e xs) ≤ upper (form e ys)
  -- amounts in a unit j times finer
  pub finer_down : (j : ℕ) (ys : List ℕ) → Each (λ x y. j * x ≤ y) xs ys → j * lower (form e xs) ≤ lower (form e ys)
  pub finer_up : (j : ℕ) (ys : List ℕ) → Each (λ x y. y ≤ j * x) xs ys → upper (form e ys) ≤ j * upper (form e xs)
  -- amounts that pass these by at most ws
  pub narrow : (ys ws : List ℕ) → Wider xs ys ws → upper (form e ys) ≤ lower (form e xs) + (1 + ceiling_root (length ws) * added ws)
  -- no member passes the root, and the root does not pass the members added
  pub covers : (i : ℕ) → at xs i ≤ lower (form e xs)
  pub diversifies : upper (form e xs) ≤ added xs
