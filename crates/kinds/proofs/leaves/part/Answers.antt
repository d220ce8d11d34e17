use Rattle.std.proofs.Common.{◌∙◌}
use Rattle.charges.specs.Leaves.{parts}
use Rattle.lines.specs.Kinds.{number}
use Rattle.lines.specs.Totals.{total}
use Rattle.kinds.specs.Finer.{total_linear}
use Rattle.kinds.specs.Matches.{rate_exactly}
use Rattle.kinds.proofs.leaves.part.Goals as goal

pub returns : goal.returns
returns c = λ ls tally.
    c.new.ensures
    ∙ rate_exactly (total (number c.args.kind) c.args.class) (total_linear (number c.args.kind) c.args.class c.requires) c.args.numerator (parts c.args.parts) c.first.result ls (c.first.ensures.value ∙ tally.firsts (number c.args.kind) c.args.class)
