-- The 28 figures by a choice of charges, on lines and tables. Assumes nothing.
use Rattle.std.specs.Prelude.{ℕ, List, Result}
use Rattle.charges.specs.declared.charge.TooLargeAt.{TooLargeAt}
use Rattle.charges.specs.Formula.{limited, figures}
use Rattle.charges.specs.Meaning.{Meaning}
use Rattle.charges.specs.Worked.{WorkedOut, Answered}
use Rattle.tables.specs.Standing.{table}
use Rattle.choice.specs.Basis.{Basis, Chosen, shown}
use Rattle.choice.specs.Beside.{beside}

module _ (m : Chosen) (b : Basis) where
  -- figures 1 to 28
  abbrev pub all_figures : List Meaning
  all_figures = figures (table b.tables 1) (beside b.lines) (shown m b) (m.basic b)

  -- those that may be too large, figures 1 to 27
  abbrev pub all_limited : List Meaning
  all_limited = limited (table b.tables 1) (beside b.lines) (shown m b) (m.basic b)

  -- their lows and highs, with the laws that they keep
  abbrev pub AllWorked : List (ℕ × ℕ) → Type 0
  AllWorked ps = WorkedOut (table b.tables 1) (beside b.lines) (shown m b) (m.basic b) ps

  -- the figures in the place, or the number of the lowest that is too large, and the place as before
  abbrev pub Figured : List (ℕ × ℕ) → List (ℕ × ℕ) → Result (Unit {0}) TooLargeAt → Type 0
  Figured before after r = Answered (table b.tables 1) (beside b.lines) (shown m b) (m.basic b) before after r
