use Rattle.std.proofs.Common.{◌-◌, ap, ◌∙◌, arith}
use Rattle.roots.specs.Cells.{entry_count}
use Rattle.roots.proofs.Fill.{before_half}
use Rattle.roots.proofs.size.Size.entries.Goals as goal

pub returns-clause-value : goal.returns-clause-value
returns-clause-value c =
    before_half c.members-n.result c.members-n.result (c.members-n.result - 1) (omega arith) (omega arith) ∙ ap entry_count c.members-n.ensures.value
