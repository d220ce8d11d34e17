-- A table replaced by another of its size. Assumes nothing.
use Rattle.std.proofs.Common.{◌≡◌, ℕ, ◌+◌, ◌-◌, ◌<◌, Bool, true, false, cond, eqb, List, map, length, get_or, set, Some, None, Ok, Option, sym, refl, ap, ◌∙◌, ap₂, arith}
use mathlib.Core.Path.{fun_ext}
use Rattle.std.proofs.lemmas.List.{map-set, set-get_or}
use Rattle.std.proofs.lemmas.Bool.Decides.{nat_tests}
use Rattle.std.specs.Option.{ok_or, option_map}
use Rattle.roots.specs.declared.table.Table.{Table}
use Rattle.roots.specs.declared.table.TableFault.{TableFault}
use Rattle.roots.specs.declared.table.TableFault.TheVariants as one
use Rattle.roots.specs.Answers.{table_fault}
use Rattle.roots.specs.Cells.{entry_count, filled}
use Rattle.roots.specs.First.{first_above}
use Rattle.roots.specs.Held.{correlation, table_members}
use Rattle.tables.specs.declared.tables.Tables.{Tables}
use Rattle.tables.specs.declared.which.UnknownTable.{UnknownTable}
use Rattle.tables.specs.declared.which.Which.{Which}
use Rattle.tables.specs.Faults.{shown, of_table}
use Rattle.tables.specs.Numbers.{number, numbered}
use Rattle.tables.specs.Replacing.{refused, refusal, after, replaced}
use Rattle.tables.specs.Sizes.{sizes, size, members}
use Rattle.tables.specs.Standing.{entries}
use Rattle.tables.proofs.Known.{known}
use Rattle.tables.proofs.Seven.{seven, sized_at}

-- the sizes stay
pub sizes_kept : (ts : Tables) (i : ℕ) (t : Table) → table_members t ≡ get_or sizes i 0 → map table_members (set ts.all i t) ≡ sizes
sizes_kept ts i t h = map-set table_members ts.all i t ∙ ap₂ (λ (l : List ℕ) (n : ℕ). set l i n) ts.sized h ∙ set-get_or sizes i 0

commute : (table : ℕ) (b : Bool) (o : Option ℕ) → cond b (option_map (λ p. (3, table, p)) o) (Some (3, table, 0)) ≡ option_map (λ e. shown (of_table table e)) (cond b (option_map one.Entry o) (Some one.Count))
commute table true None = refl
commute table true (Some p) = refl
commute table false o = refl

-- the place, from 0, of the table with a number, and how many members it has
pub record Found (table place n : ℕ) : Type 0 where
  pub at : place + 1 ≡ table
  pub members : members table ≡ Some n
  pub sized : n ≡ size table

pub found : (ts : Tables) (table place n : ℕ) (w : Which) (e : UnknownTable) (t : Table) → Ok w ≡ ok_or (numbered table) e → place + 1 ≡ number w → place < 7 → n ≡ table_members (get_or ts.all place t) → Found table place n
found ts table place n w e t named is inside members =
    let at : place + 1 ≡ table = is ∙ known table w e named in
    let before : place ≡ table - 1 = omega arith in
    let sized : n ≡ size table = members ∙ sized_at ts place t (omega (arith, seven ts)) ∙ ap (λ i. get_or sizes i 0) before in
    record { at = at; members = grind (arith, nat_tests, sized); sized = sized }

module _ (table n : ℕ) (given : List ℕ) (is : members table ≡ Some n) where
  refusal_is : refusal table given ≡ option_map (λ e. shown (of_table table e)) (table_fault n given)
  refusal_is = ap (refused table given) is ∙ commute table (eqb (length given) (entry_count n)) (first_above 100 given)

  pub refuses : (e : TableFault) → table_fault n given ≡ Some e → refusal table given ≡ Some (shown (of_table table e))
  refuses e h = refusal_is ∙ ap (option_map (λ e. shown (of_table table e))) h

  pub accepts : table_fault n given ≡ None → refusal table given ≡ None
  accepts h = refusal_is ∙ ap (option_map (λ e. shown (of_table table e))) h

  -- the entries that stand after
  pub stands : (ts : Tables) (i : ℕ) (t : Table) → i + 1 ≡ table → n ≡ size table → table_fault n given ≡ None → ((r c : ℕ) → correlation t r c ≡ filled n given r c) → map correlation (set ts.all i t) ≡ replaced (entries ts) table given
  stands ts i t place sized h entry =
      let at : i ≡ table - 1 = omega arith in
      map-set correlation ts.all i t
      ∙ ap₂ (λ (j : ℕ) (e : ℕ → ℕ → ℕ). set (entries ts) j e) at (fun_ext (λ r. fun_ext (λ c. entry r c)) ∙ ap (λ m. filled m given) sized)
      ∙ sym (ap (λ o. after o (entries ts) (set (entries ts) (table - 1) (filled (size table) given))) (accepts h))

-- a refusal changes nothing
pub stays : (ts : List (ℕ → ℕ → ℕ)) (table : ℕ) (given : List ℕ) (e : ℕ × ℕ × ℕ) → refusal table given ≡ Some e → ts ≡ replaced ts table given
stays ts table given e h = sym (ap (λ o. after o ts (set ts (table - 1) (filled (size table) given))) h)
