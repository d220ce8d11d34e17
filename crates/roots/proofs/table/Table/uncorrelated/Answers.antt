use Rattle.std.proofs.Common.{◌≡◌, ℕ, [], ◌∙◌, arith}
use Rattle.std.proofs.lemmas.Bool.Decides.{nat_tests}
use Rattle.roots.specs.Cells.{identity, filled}
use Rattle.roots.proofs.Fill.{entry_filled, kept}
use Rattle.roots.proofs.table.Table.uncorrelated.Goals as goal

none_given : (n r c : ℕ) → filled n [] r c ≡ identity r c
none_given n r c = grind (arith, nat_tests)

pub invariant_of-result : goal.invariant_of-result
invariant_of-result c =
    let k = kept c.args.size.count [] c.cells-cells.result c.args.size.most (λ i. omega arith) c.cells-cells.ensures in
    record { symmetric = k.0; diagonal = k.1; small = k.2; outside = k.3 }

pub returns-clause-entries : goal.returns-clause-entries
returns-clause-entries c = λ r k. entry_filled c.args.size.count [] c.cells-cells.result c.args.size.most c.cells-cells.ensures r k ∙ none_given c.args.size.count r k
