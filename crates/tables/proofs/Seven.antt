-- There are seven tables, each of its size. Assumes nothing.
use Rattle.std.proofs.Common.{◌≡◌, ℕ, ◌<◌, length, get_or, sym, ap, ◌∙◌}
use Rattle.std.proofs.lemmas.List.{length-map, get_or-map}
use Rattle.roots.specs.declared.table.Table.{Table}
use Rattle.roots.specs.Held.{table_members}
use Rattle.tables.specs.declared.tables.Tables.{Tables}
use Rattle.tables.specs.Sizes.{sizes}

pub seven : (ts : Tables) → length ts.all ≡ 7
seven ts = sym (length-map ts.all table_members) ∙ ap length ts.sized

-- the members of the table at a place
pub sized_at : (ts : Tables) (i : ℕ) (d : Table) → i < length ts.all → table_members (get_or ts.all i d) ≡ get_or sizes i 0
sized_at ts i d h = sym (get_or-map table_members ts.all i d 0 h) ∙ ap (λ l. get_or l i 0) ts.sized
