use Rattle.std.proofs.Common.{refl, ap, arith}
use Rattle.lines.specs.declared.sums.Sum.{Sum}
use Rattle.lines.specs.Kinds.{number}
use Rattle.lines.proofs.Cells.{cell_le}
use Rattle.lines.proofs.totals.Totals.count.Goals as goal

pub returns-clause-small : goal.returns-clause-small
returns-clause-small c =
    let t = c.args.self.now in
    omega (arith, ap (λ (s : Sum). s.count) c.at.ensures, cell_le (λ (s : Sum). s.count) refl t.sums (number c.args.kind) c.args.class, t.few (number c.args.kind))
