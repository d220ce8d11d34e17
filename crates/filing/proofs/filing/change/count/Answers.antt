use Rattle.std.proofs.Common.{◌≡◌, count_by, eqb, ◌∙◌, rules}
use Rattle.lines.specs.declared.line.Line.{Line}
use Rattle.lines.specs.Kinds.{number}
use Rattle.filing.proofs.Counts.{counted}
use Rattle.filing.proofs.filing.change.count.Goals as goal

pub returns : goal.returns
returns c =
    let run : c.count.result ≡ count_by (λ (l : Line). eqb l.fields.kind (number c.args.kind)) c.args.lines.now = search rules in
    run ∙ counted (number c.args.kind) c.args.lines.now
