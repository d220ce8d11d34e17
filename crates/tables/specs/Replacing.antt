-- A table replaced whole: the refusal that applies, and what stands after. Assumes nothing.
use Rattle.std.specs.Prelude.{ℕ, ◌-◌, cond, List, length, Some, None, Ok, Err, Option, Result, ◌==◌, slice_set}
use Rattle.std.specs.Option.{option_map}
use Rattle.roots.specs.Cells.{entry_count, filled}
use Rattle.roots.specs.First.{first_above}
use Rattle.tables.specs.declared.fault.EntriesFault.{EntriesFault}
use Rattle.tables.specs.Faults.{shown}
use Rattle.tables.specs.Sizes.{size, members}

-- an answer by what it shows
abbrev pub told : Result (Unit {0}) EntriesFault → Result (Unit {0}) (ℕ × ℕ × ℕ)
told (Ok u) = Ok u
told (Err e) = Err (shown e)

-- done, or the refusal that applies
abbrev pub answer : Option (ℕ × ℕ × ℕ) → Result (Unit {0}) (ℕ × ℕ × ℕ)
answer None = Ok tt
answer (Some e) = Err e

-- an unknown table or a wrong count of entries is asked first, then the first entry above 100
abbrev pub refused : ℕ → List ℕ → Option ℕ → Option (ℕ × ℕ × ℕ)
refused table given None = Some (3, table, 0)
refused table given (Some n) = cond (length given == entry_count n) (option_map (λ position. (3, table, position)) (first_above 100 given)) (Some (3, table, 0))

abbrev pub refusal : ℕ → List ℕ → Option (ℕ × ℕ × ℕ)
refusal table given = refused table given (members table)

abbrev pub replacing : ℕ → List ℕ → Result (Unit {0}) (ℕ × ℕ × ℕ)
replacing table given = answer (refusal table given)

-- what stands after a call: as before if it is refused
abbrev pub after : {S : Type 0} → Option (ℕ × ℕ × ℕ) → S → S → S
after None before new = new
after (Some e) before new = before

abbrev pub replaced : List (ℕ → ℕ → ℕ) → ℕ → List ℕ → List (ℕ → ℕ → ℕ)
replaced ts table given = after (refusal table given) ts (slice_set ts (table - 1) (filled (size table) given))
