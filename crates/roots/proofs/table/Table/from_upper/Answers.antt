use Rattle.std.proofs.Common.{◌≡◌, ℕ, List, length, None, sym, refl, ◌∙◌}
use Rattle.std.proofs.lemmas.Bool.{eq-eqb}
use Rattle.roots.specs.First.{first_above}
use Rattle.roots.specs.Answers.{table_fault}
use Rattle.roots.specs.Cells.{entry_count}
use Rattle.roots.proofs.Firsts.{none_above}
use Rattle.roots.proofs.Fill.{entry_filled, kept}
use Rattle.roots.proofs.table.Table.from_upper.Goals as goal

none : (n : ℕ) (given : List ℕ) → length given ≡ entry_count n → first_above 100 given ≡ None → table_fault n given ≡ None
none n given e h = rw (eq-eqb (length given) (entry_count n) e, h)

pub invariant_of-result : goal.invariant_of-result
invariant_of-result c =
    let k = kept c.args.size.count c.args.given.now c.cells-cells.result c.args.size.most (none_above 100 c.args.given.now (sym c.first_above_100.ensures ∙ c.in_default.is)) c.cells-cells.ensures in
    record { symmetric = k.0; diagonal = k.1; small = k.2; outside = k.3 }

pub returns : goal.returns
returns c = (
  none c.args.size.count c.args.given.now (c.if-given-entries.false ∙ c.entries.ensures.value) (sym c.first_above_100.ensures ∙ c.in_default.is),
  refl,
  entry_filled c.args.size.count c.args.given.now c.cells-cells.result c.args.size.most c.cells-cells.ensures,
)
