-- What a charge means, the terms that it keeps, and the module of charges. Assumes nothing.
use Rattle.std.specs.Prelude.{◌≡◌, ℕ, ◌+◌, ◌*◌, ◌≤◌, max, Bool, true, false, ◌||◌, List, [], ◌∷◌, ◌++◌, map, length, Some, None, Ok, Err, Option, Result}
use Rattle.roots.specs.First.{first}
use Rattle.roots.specs.Form.{form, added}
use Rattle.roots.specs.Root.{lower, upper, ceiling_root}
use Rattle.charges.specs.declared.charge.TooLarge.{TooLarge}
use Rattle.charges.specs.declared.charge.TooLargeAt.{TooLargeAt}
use Rattle.charges.specs.Quotients.{passes}

pub record Meaning : Type 0 where
  -- the result in a unit k times finer, rounded down and rounded up
  pub D : ℕ → ℕ
  pub U : ℕ → ℕ
  -- the greatest width: how far the high may lie above the low
  pub width : ℕ
  -- the highs of its members, at every depth
  pub inner : List ℕ

abbrev pub means : (ℕ → ℕ) → (ℕ → ℕ) → ℕ → List ℕ → Meaning
means d u w i = record { D = d; U = u; width = w; inner = i }

-- the largest of some numbers
abbrev pub most : List ℕ → ℕ
most [] = 0
most (x ∷ xs) = max x (most xs)

-- some number passes the limit
abbrev pub some_passes : List ℕ → Bool
some_passes [] = false
some_passes (x ∷ xs) = passes x || some_passes xs

-- too large: the high, or that of a member at any depth, passes the limit
abbrev pub large : Meaning → Bool
large m = some_passes m.inner || passes (m.U 1)

-- what every charge keeps, for all whole j and k from 1
pub record Terms (m : Meaning) : Type 0 where
  pub order : (k : ℕ) → 1 ≤ k → m.D k ≤ m.U k
  pub finer_down : (j k : ℕ) → 1 ≤ j → 1 ≤ k → j * m.D k ≤ m.D (j * k)
  pub finer_up : (j k : ℕ) → 1 ≤ j → 1 ≤ k → m.U (j * k) ≤ j * m.U k
  pub narrow : m.U 1 ≤ m.D 1 + m.width
  -- no charge is too large by a high that none of its members has
  pub covers : most m.inner ≤ m.U 1

abbrev pub AllTerms : List Meaning → Type 0
AllTerms [] = Unit {0}
AllTerms (m ∷ ms) = Terms m × AllTerms ms

abbrev pub downs : List Meaning → ℕ → List ℕ
downs ms k = map (λ m. m.D k) ms

abbrev pub ups : List Meaning → ℕ → List ℕ
ups ms k = map (λ m. m.U k) ms

abbrev pub widths : List Meaning → List ℕ
widths ms = map (λ m. m.width) ms

-- the highs of charges and of their members at every depth
abbrev pub depths : List Meaning → List ℕ
depths [] = []
depths (m ∷ ms) = m.inner ++ (m.U 1 ∷ depths ms)

-- the module of charges under a table: a charge again
abbrev pub module_of : (ℕ → ℕ → ℕ) → List Meaning → Meaning
module_of e ms = record {
  D = λ k. lower (form e (downs ms k));
  U = λ k. upper (form e (ups ms k));
  width = 1 + ceiling_root (length ms) * added (widths ms);
  inner = depths ms;
}

-- the low and the high
abbrev pub bounds : Meaning → ℕ × ℕ
bounds m = (m.D 1, m.U 1)

abbrev pub all_bounds : List Meaning → List (ℕ × ℕ)
all_bounds ms = map bounds ms

-- the place, from 1, of the first charge that is too large
abbrev pub first_large : List Meaning → Option ℕ
first_large ms = first large ms

-- what a charge answers: its low and high together, or that it is too large
abbrev pub Told : Meaning → Result (ℕ × ℕ) TooLarge → Type 0
Told m (Ok b) = (large m ≡ false) × (b ≡ bounds m)
Told m (Err e) = large m ≡ true

-- what charges in order answer: all bounds behind those before, or the place of the first that is too large
abbrev pub Gathered : List Meaning → List (ℕ × ℕ) → List (ℕ × ℕ) → Result (Unit {0}) TooLargeAt → Type 0
Gathered ms before after (Ok u) = (first_large ms ≡ None) × (after ≡ before ++ all_bounds ms)
Gathered ms before after (Err at) = first_large ms ≡ Some at.0
