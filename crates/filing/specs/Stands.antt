-- What a filing holds, as the plain machine has it, and what its calls answer. Assumes nothing.
use Rattle.std.specs.Prelude.{◌≡◌, ℕ, Some, None, Ok, Err, vec_items, Result}
use Rattle.lines.specs.Held.{plain}
use Rattle.tables.specs.Standing.{entries}
use Rattle.filing.specs.declared.fault.FilingFault.{FilingFault}
use Rattle.filing.specs.declared.fault.OpenFault.{OpenFault}
use Rattle.filing.specs.declared.fault.OpenFault.TheVariants as fault
use Rattle.filing.specs.declared.filing.Filing.{Filing}
use Rattle.filing.specs.Faults.{shown}
use Rattle.filing.specs.Machine.{Standing, open_refusal, opened}

abbrev pub stands : Filing → Standing
stands f = record { year = f.year; quarter = f.quarter; tables = entries f.tables; lines = plain (vec_items f.lines) }

-- an answer by what it shows
abbrev pub told : Result (Unit {0}) FilingFault → Result (Unit {0}) (ℕ × ℕ × ℕ)
told (Ok u) = Ok u
told (Err e) = Err (shown e)

-- a new filing, the refusal that applies, or, where none does, no memory
abbrev pub NewlyOpened : ℕ → ℕ → Result Filing OpenFault → Type 0
NewlyOpened year quarter (Ok f) = (open_refusal year quarter ≡ None) × (stands f ≡ opened year quarter)
NewlyOpened year quarter (Err fault.Memory) = open_refusal year quarter ≡ None
NewlyOpened year quarter (Err (fault.Filing e)) = open_refusal year quarter ≡ Some (shown e)
