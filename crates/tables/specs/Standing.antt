-- The tables that stand, in the order of their numbers: each a function from row and column, counted
-- from 0, to the entry. Assumes nothing.
use Rattle.std.specs.Prelude.{ℕ, ◌-◌, List, [], ◌∷◌, map, slice_index_or}
use Rattle.roots.specs.Cells.{identity}
use Rattle.roots.specs.Held.{correlation, table_members}
use Rattle.tables.specs.declared.named.NamedTables.{NamedTables}
use Rattle.tables.specs.declared.tables.Tables.{Tables}

abbrev pub entries : Tables → List (ℕ → ℕ → ℕ)
entries ts = map correlation ts.all

-- seven tables by their names, in the order of their numbers
abbrev pub in_order : NamedTables → List (ℕ → ℕ → ℕ)
in_order ts =
    correlation ts.basic ∷ correlation ts.market ∷ correlation ts.equity ∷ correlation ts.life ∷
    correlation ts.health ∷ correlation ts.non_life ∷ correlation ts.business ∷ []

-- how many members each of them has
abbrev pub sizes_of : NamedTables → List ℕ
sizes_of ts =
    table_members ts.basic ∷ table_members ts.market ∷ table_members ts.equity ∷ table_members ts.life ∷
    table_members ts.health ∷ table_members ts.non_life ∷ table_members ts.business ∷ []

-- the table with a number
abbrev pub table : List (ℕ → ℕ → ℕ) → ℕ → ℕ → ℕ → ℕ
table ts number = slice_index_or ts (number - 1) identity

-- 0 off every diagonal
abbrev pub uncorrelated : List (ℕ → ℕ → ℕ)
uncorrelated = identity ∷ identity ∷ identity ∷ identity ∷ identity ∷ identity ∷ identity ∷ []
