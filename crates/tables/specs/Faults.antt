-- The refusal of entries for a table. Assumes nothing.
use Rattle.std.specs.Prelude.{ℕ}
use Rattle.tables.specs.declared.fault.EntriesFault.{EntriesFault}
use Rattle.tables.specs.declared.fault.EntriesFault.TheVariants.{Count, Entry}
use Rattle.roots.specs.declared.table.TableFault.{TableFault}
use Rattle.roots.specs.declared.table.TableFault.TheVariants as one

-- its number, the table's number, and the entry's position, 0 for their count
abbrev pub shown : EntriesFault → ℕ × ℕ × ℕ
shown (Count table) = (3, table, 0)
shown (Entry table position) = (3, table, position)

-- the fault of one table, with its number
abbrev pub of_table : ℕ → TableFault → EntriesFault
of_table table one.Count = Count table
of_table table (one.Entry position) = Entry table position
