-- What the values of this crate's types stand for. Assumes nothing.
use Rattle.std.specs.Prelude.{ℕ, List, take}
use Rattle.roots.specs.declared.amounts.Amounts.{Amounts}
use Rattle.roots.specs.declared.size.Size.{Size}
use Rattle.roots.specs.declared.table.Table.{Table}
use Rattle.roots.specs.Cells.{entry}

-- how many members
abbrev pub members_of : Size → ℕ
members_of s = s.count

abbrev pub table_members : Table → ℕ
table_members t = t.size.count

-- the entry of a row and a column, from 0
abbrev pub correlation : Table → ℕ → ℕ → ℕ
correlation t = entry t.cells

-- the amounts in order
abbrev pub held : Amounts → List ℕ
held a = take a.len a.values
