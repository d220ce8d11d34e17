use Rattle.std.proofs.Common.{◌∙◌, sym}
use Rattle.lines.proofs.Bounds.{number_of}
use Rattle.lines.proofs.line.Line.kind.Goals as goal

pub returns : goal.returns
returns c = number_of c.args.self.now.fields.kind c.unwrap.result _ (sym c.unwrap.ensures ∙ c.try_from.ensures)
