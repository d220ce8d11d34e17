-- The plain machine: what stands, and for each call the refusal that applies, by its arguments and what
-- stands, and what stands after. A refusal is its number and two places. Assumes nothing.
use Rattle.std.specs.Prelude.{ℕ, ◌+◌, ◌-◌, Bool, cond, ◌&&◌, ◌||◌, List, [], ◌∷◌, ◌++◌, length, Some, None, Ok, Err, Option, Result, nat_le, nat_lt}
use Rattle.std.specs.List.{remove}
use Rattle.lines.specs.declared.fields.Fields.{Fields}
use Rattle.lines.specs.Judged.{judged}
use Rattle.lines.specs.Totals.{kind_count}
use Rattle.lines.specs.Weights.{square}
use Rattle.tables.specs.Replacing as tables
use Rattle.tables.specs.Standing.{uncorrelated}

pub record Standing : Type 0 where
  pub year : ℕ
  pub quarter : ℕ
  -- in the order of their numbers
  pub tables : List (ℕ → ℕ → ℕ)
  pub lines : List Fields

abbrev pub with_lines : Standing → List Fields → Standing
with_lines st ls = record { year = st.year; quarter = st.quarter; tables = st.tables; lines = ls }

abbrev pub with_tables : Standing → List (ℕ → ℕ → ℕ) → Standing
with_tables st ts = record { year = st.year; quarter = st.quarter; tables = ts; lines = st.lines }

-- open: the year is asked before the quarter
abbrev pub open_refusal : ℕ → ℕ → Option (ℕ × ℕ × ℕ)
open_refusal year quarter = cond (nat_le 2000 year && nat_le year 4095) (cond (nat_le 1 quarter && nat_le quarter 4) None (Some (2, 2, 0))) (Some (2, 1, 0))

abbrev pub opened : ℕ → ℕ → Standing
opened year quarter = record { year = year; quarter = quarter; tables = uncorrelated; lines = [] }

abbrev pub reopened : Standing → ℕ → ℕ → Standing
reopened st year quarter = tables.after (open_refusal year quarter) st (opened year quarter)

-- no room: 128 lines stand, or 16 of a kind whose amounts are squared, 5 or 18
abbrev pub full : List Fields → ℕ → Bool
full ls kind = nat_le 128 (length ls) || (square kind && nat_le 16 (kind_count kind ls))

-- enter: the line's own faults are asked before the room for it
abbrev pub room : List Fields → Result Fields (ℕ × ℕ × ℕ) → Option (ℕ × ℕ × ℕ)
room ls (Ok l) = cond (full ls l.kind) (Some (8, length ls + 1, 0)) None
room ls (Err e) = Some e

abbrev pub enter_refusal : Standing → Fields → Option (ℕ × ℕ × ℕ)
enter_refusal st l = room st.lines (judged l (length st.lines + 1))

abbrev pub entered : Standing → Fields → Standing
entered st l = tables.after (enter_refusal st l) st (with_lines st (st.lines ++ (l ∷ [])))

-- strike
abbrev pub strike_refusal : Standing → ℕ → Option (ℕ × ℕ × ℕ)
strike_refusal st number = cond (nat_lt 0 number && nat_le number (length st.lines)) None (Some (9, number, 0))

abbrev pub struck : Standing → ℕ → Standing
struck st number = tables.after (strike_refusal st number) st (with_lines st (remove st.lines (number - 1)))

-- replace
abbrev pub replaced : Standing → ℕ → List ℕ → Standing
replaced st table entries = with_tables st (tables.replaced st.tables table entries)
