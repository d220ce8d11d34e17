-- The laws of the whole roots. Assumes nothing.
use Rattle.std.proofs.Common.{◌≡◌, ℕ, zero, suc, ◌+◌, ◌*◌, ◌/◌, ◌<◌, ◌≤◌, Bool, true, false, cond, leb, ◌≢◌, ◌⊎◌, refl, ⊎_elim, mul-le-mul, mul-le-mul_left, arith, leb-false, leb-true}
use native.Mathlib.Decide.{dec_le}
use Rattle.std.proofs.lemmas.Bool.{cases_eq}
use Rattle.std.proofs.lemmas.Bool.Decides.{nat_tests}
use Rattle.roots.specs.Root.{root_by, lower, upper, RootsOfAll, ceiling_root, Ceiling}

-- squares keep the order, both ways
pub square_le : (a b : ℕ) → a ≤ b → a * a ≤ b * b
square_le a b h = mul-le-mul h h

pub le_from_squares : (a b : ℕ) → a * a < (b + 1) * (b + 1) → a ≤ b
le_from_squares a b h = elim (dec_le a b) [ yes p ↦ p | no p ↦ (let k = square_le (b + 1) a (omega arith) in omega arith) ]

-- n is the whole root of f, rounded down
abbrev Root : ℕ → ℕ → Type 0
Root f n = (n * n ≤ f) × (f < (n + 1) * (n + 1))

root_step : (f s : ℕ) → Root (f / 4) s → Root f (cond (leb ((2 * s + 1) * (2 * s + 1)) f) (2 * s + 1) (2 * s))
root_step f s h = go (leb ((2 * s + 1) * (2 * s + 1)) f) refl
  where
    go : (b : Bool) → leb ((2 * s + 1) * (2 * s + 1)) f ≡ b → Root f (cond b (2 * s + 1) (2 * s))
    go true e = let t = leb-true _ _ e in (t, omega arith)
    go false e = let t = leb-false _ _ e in (omega arith, t)

root_by_root : (fuel f : ℕ) → f ≤ fuel → Root f (root_by fuel f)
unfolding root_by
root_by_root zero f h = (omega arith, omega arith)
root_by_root (suc fuel) zero h = (omega arith, omega arith)
root_by_root (suc fuel) (suc g) h = root_step (suc g) (root_by fuel (suc g / 4)) (root_by_root fuel (suc g / 4) (omega arith))

pub lower_le : (f : ℕ) → 100 * (lower f * lower f) ≤ f
unfolding lower
lower_le f = let h = root_by_root (f / 100) (f / 100) (omega arith) in omega arith

pub lower_next : (f : ℕ) → f < 100 * ((lower f + 1) * (lower f + 1))
unfolding lower
lower_next f = let h = root_by_root (f / 100) (f / 100) (omega arith) in omega arith

pub lower_greatest : (f n : ℕ) → 100 * (n * n) ≤ f → n ≤ lower f
lower_greatest f n h = let k = lower_next f in le_from_squares n (lower f) (omega arith)

pub lower_unique : (f n : ℕ) → 100 * (n * n) ≤ f → f < 100 * ((n + 1) * (n + 1)) → n ≡ lower f
lower_unique f n lo hi =
    let a = lower_greatest f n lo in
    let k = lower_le f in
    let b = le_from_squares (lower f) n (omega arith) in
    omega arith

-- the upper root by the lower one
pub upper_exact : (f : ℕ) → 100 * (lower f * lower f) ≡ f → upper f ≡ lower f
unfolding upper
upper_exact f e = grind (arith, nat_tests)

pub upper_inexact : (f : ℕ) → 100 * (lower f * lower f) ≢ f → upper f ≡ lower f + 1
unfolding upper
upper_inexact f ne = let l = lower_le f in grind (arith, nat_tests)

-- the two ways of the upper root
exactly : (f : ℕ) → (100 * (lower f * lower f) ≡ f) ⊎ (100 * (lower f * lower f) ≢ f)
exactly f = cases_eq (100 * (lower f * lower f)) f

pub upper_ge : (f : ℕ) → f ≤ 100 * (upper f * upper f)
upper_ge f =
    ⊎_elim
    (λ e. rw (upper_exact f e) (omega arith))
    (λ ne. rw (upper_inexact f ne) (let k = lower_next f in omega arith))
    (exactly f)

pub upper_least : (f m : ℕ) → f ≤ 100 * (m * m) → upper f ≤ m
upper_least f m h =
    ⊎_elim
    (λ e. rw (upper_exact f e) (le_from_squares (lower f) m (omega arith)))
    (λ ne. rw (upper_inexact f ne) (let k = lower_le f in strict (lower f) m (omega arith)))
    (exactly f)
  where
    strict : (a b : ℕ) → a * a < b * b → a + 1 ≤ b
    strict a b l = elim (dec_le (a + 1) b) [ yes p ↦ p | no p ↦ (let k = square_le b a (omega arith) in omega arith) ]

pub roots_of_all : RootsOfAll
roots_of_all f = (record { within = lower_le f; greatest = lower_greatest f }, record { reaches = upper_ge f; least = upper_least f })

pub ceiling : (n : ℕ) → Ceiling n (ceiling_root n)
ceiling n = record { reaches = let k = upper_ge (100 * n) in omega arith; least = λ m h. upper_least (100 * n) m (omega arith) }

-- the upper root is the lower one or the next
pub lower_le_upper : (f : ℕ) → lower f ≤ upper f
lower_le_upper f = let a = lower_le f in let b = upper_ge f in le_from_squares (lower f) (upper f) (omega arith)

pub upper_next : (f : ℕ) → upper f ≤ lower f + 1
upper_next f = let k = lower_next f in upper_least f (lower f + 1) (omega arith)

pub exact_when_equal : (f : ℕ) → upper f ≡ lower f → 100 * (lower f * lower f) ≡ f
exact_when_equal f e =
    let a = lower_le f in
    let b : f ≤ 100 * (lower f * lower f) = rw e at (upper_ge f) in
    omega arith

-- both rise with the form
pub lower_rises : (f g : ℕ) → f ≤ g → lower f ≤ lower g
lower_rises f g h = let k = lower_le f in lower_greatest g (lower f) (omega arith)

pub upper_rises : (f g : ℕ) → f ≤ g → upper f ≤ upper g
upper_rises f g h = let k = upper_ge g in upper_least f (upper g) (omega arith)

-- a unit j times finer
pub lower_finer : (j f g : ℕ) → (j * j) * f ≤ g → j * lower f ≤ lower g
lower_finer j f g h = let a = mul-le-mul_left (j * j) (lower_le f) in lower_greatest g (j * lower f) (omega arith)

pub upper_finer : (j f g : ℕ) → g ≤ (j * j) * f → upper g ≤ j * upper f
upper_finer j f g h = let a = mul-le-mul_left (j * j) (upper_ge f) in upper_least g (j * upper f) (omega arith)
