-- Totals, and the lines that they are of. Assumes nothing.
use Rattle.std.specs.Prelude.{◌≡◌, ℕ, ◌<◌, ◌≤◌, List, length, Some, None, Option}
use Rattle.lines.specs.declared.fields.Fields.{Fields}
use Rattle.lines.specs.declared.line.Line.{Line}
use Rattle.lines.specs.declared.totals.Totals.{Totals}
use Rattle.lines.specs.Cells.{cell}
use Rattle.lines.specs.Held.{plain}
use Rattle.lines.specs.Totals.{total, afters, standing}

-- what totals hold of a kind and a class
abbrev pub first_of : Totals → ℕ → ℕ → ℕ
first_of t kind class = (cell t.sums kind class).first

abbrev pub second_of : Totals → ℕ → ℕ → ℕ
second_of t kind class = (cell t.sums kind class).second

abbrev pub count_of : Totals → ℕ → ℕ → ℕ
count_of t kind class = (cell t.sums kind class).count

pub record Tally (t : Totals) (ls : List Fields) : Type 0 where
  pub firsts : (kind class : ℕ) → first_of t kind class ≡ total kind class ls
  pub seconds : (kind class : ℕ) → second_of t kind class ≡ afters kind class ls
  pub counts : (kind class : ℕ) → count_of t kind class ≡ standing kind class ls

-- at most 128 lines are totalled
abbrev pub Totalled : List Line → Option Totals → Type 0
Totalled ls None = 128 < length ls
Totalled ls (Some t) = (length ls ≤ 128) × Tally t (plain ls)
