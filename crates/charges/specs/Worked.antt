-- What working out tells of figures, by their numbers from 1. Assumes nothing.
use Rattle.std.specs.Prelude.{◌≡◌, ℕ, ◌+◌, ◌-◌, ◌*◌, ◌≤◌, List, [], length, get_or, Some, None, Ok, Err, Result, slice_index_or}
use Rattle.roots.specs.Form.{added}
use Rattle.charges.specs.declared.beside.Beside.{Beside}
use Rattle.charges.specs.declared.charge.TooLargeAt.{TooLargeAt}
use Rattle.charges.specs.Formula.{basic, limited, figures}
use Rattle.charges.specs.Held.{highs}
use Rattle.charges.specs.Meaning.{Meaning, means, all_bounds, first_large}

abbrev pub nothing : Meaning
nothing = means (λ k. 0) (λ k. 0) 0 []

abbrev pub figure : List Meaning → ℕ → Meaning
figure ms f = slice_index_or ms (f - 1) nothing

abbrev pub low : List (ℕ × ℕ) → ℕ → ℕ
low ps f = (get_or ps (f - 1) (0, 0)).0

abbrev pub high : List (ℕ × ℕ) → ℕ → ℕ
high ps f = (get_or ps (f - 1) (0, 0)).1

-- a figure between its low and its high, in its own unit and in every finer one
pub record Between (m : Meaning) (low high : ℕ) : Type 0 where
  pub low_is : low ≡ m.D 1
  pub high_is : high ≡ m.U 1
  pub finer : (k : ℕ) → 1 ≤ k → (k * low ≤ m.D k) × (m.D k ≤ m.U k) × (m.U k ≤ k * high)
  pub narrow : high ≤ low + m.width

-- the figures of the charges shown and of the members of the basic SCR, worked out
pub record WorkedOut (e : ℕ → ℕ → ℕ) (t : Beside) (shown members : List Meaning) (ps : List (ℕ × ℕ)) : Type 0 where
  pub none_large : first_large (limited e t shown members) ≡ None
  pub value : ps ≡ all_bounds (figures e t shown members)
  pub between : (f : ℕ) → 1 ≤ f → f ≤ length ps → Between (figure (figures e t shown members) f) (low ps f) (high ps f)
  -- no member's low passes the basic SCR's, whose high does not pass their highs added
  pub above_each : (i : ℕ) → (get_or (all_bounds members) i (0, 0)).0 ≤ (basic e t shown members).D 1
  pub below_sum : (basic e t shown members).U 1 ≤ added (highs (all_bounds members))

-- the figures in the place, or the number of the lowest that is too large, and the place as before
abbrev pub Answered : (ℕ → ℕ → ℕ) → Beside → List Meaning → List Meaning → List (ℕ × ℕ) → List (ℕ × ℕ) → Result (Unit {0}) TooLargeAt → Type 0
Answered e t shown members before after (Ok u) = WorkedOut e t shown members after
Answered e t shown members before after (Err f) = (first_large (limited e t shown members) ≡ Some f.0) × (after ≡ before)
