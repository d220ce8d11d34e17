-- Equal parts make equal modules. Assumes nothing.
use Rattle.std.proofs.Common.{◌≡◌, ℕ, List, ap, ◌∙◌}
use Rattle.roots.specs.declared.table.Table.{Table}
use Rattle.roots.specs.Held.{correlation}
use Rattle.charges.specs.Meaning.{Meaning, module_of}
use Rattle.tables.specs.declared.named.NamedTables.{NamedTables}
use Rattle.tables.specs.Standing.{table, in_order}

-- the module of charges under the table with a number
pub module_same : (number : ℕ) (ts : NamedTables) (all : List (ℕ → ℕ → ℕ)) (t u : Table) (xs ys : List Meaning) → in_order ts ≡ all → t ≡ u → correlation u ≡ table (in_order ts) number → xs ≡ ys → module_of (correlation t) xs ≡ module_of (table all number) ys
module_same number ts all t u xs ys is same own q =
    ap (λ (e : ℕ → ℕ → ℕ). module_of e xs) (ap correlation same ∙ own ∙ ap (λ (l : List (ℕ → ℕ → ℕ)). table l number) is)
    ∙ ap (λ (l : List Meaning). module_of (table all number) l) q
