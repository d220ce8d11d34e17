use Rattle.std.proofs.Common.{eqb, ap, ◌∙◌}
use Rattle.lines.specs.Kinds.{number}
use Rattle.lines.proofs.Bounds.{same_kind}
use Rattle.lines.proofs.line.Line.is_of.Goals as goal

pub returns : goal.returns
returns c = same_kind c.kind.result c.args.kind c.eq.result c.eq.ensures ∙ ap (λ n. eqb n (number c.args.kind)) c.kind.ensures
