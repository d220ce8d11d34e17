-- Which fault applies, and the answer that a call then gives. Assumes nothing.
use Rattle.std.specs.Prelude.{◌≡◌, ℕ, ◌+◌, cond, ◌&&◌, List, length, Some, None, Ok, Err, Option, Result, ◌==◌, nat_le, nat_lt}
use Rattle.std.specs.Option.{option_map}
use Rattle.roots.specs.declared.amounts.Amounts.{Amounts}
use Rattle.roots.specs.declared.amounts.AmountFault.{AmountFault}
use Rattle.roots.specs.declared.amounts.AmountFault.TheVariants as amount
use Rattle.roots.specs.declared.table.Table.{Table}
use Rattle.roots.specs.declared.table.TableFault.{TableFault}
use Rattle.roots.specs.declared.table.TableFault.TheVariants as table
use Rattle.roots.specs.First.{first_above}
use Rattle.roots.specs.Cells.{entry_count, filled}
use Rattle.roots.specs.Held.{held, table_members, correlation}

-- a table has 2 to 16 members
abbrev pub sized : ℕ → Option ℕ
sized n = cond (nat_le 2 n && nat_le n 16) (Some n) None

-- the entries given for a table of n members: a wrong count is asked first, then the first entry above 100
abbrev pub table_fault : ℕ → List ℕ → Option TableFault
table_fault n given = cond (length given == entry_count n) (option_map table.Entry (first_above 100 given)) (Some table.Count)

abbrev pub TableMade : ℕ → List ℕ → Result Table TableFault → Type 0
TableMade n given (Ok t) = (table_fault n given ≡ None) × (table_members t ≡ n) × ((r c : ℕ) → correlation t r c ≡ filled n given r c)
TableMade n given (Err e) = table_fault n given ≡ Some e

-- a list of amounts: more than 16 are asked first, then the first amount above 16,777,215
abbrev pub amounts_fault : List ℕ → Option AmountFault
amounts_fault xs = cond (nat_le (length xs) 16) (option_map amount.Large (first_above 16777215 xs)) (Some amount.Count)

abbrev pub AmountsMade : List ℕ → Result Amounts AmountFault → Type 0
AmountsMade xs (Ok a) = (amounts_fault xs ≡ None) × (held a ≡ xs)
AmountsMade xs (Err e) = amounts_fault xs ≡ Some e

-- one amount more behind xs
abbrev pub push_fault : List ℕ → ℕ → Option AmountFault
push_fault xs x = cond (nat_lt (length xs) 16) (cond (nat_lt 16777215 x) (Some (amount.Large (length xs + 1))) None) (Some amount.Count)

-- done, or the fault that applies
abbrev pub told : {E : Type 0} → Option E → Result (Unit {0}) E
told None = Ok tt
told (Some e) = Err e
