use Rattle.std.proofs.Common.{◌+◌, ◌-◌, ◌*◌, arith}
use Rattle.roots.proofs.Fill.{before_half}
use Rattle.roots.proofs.table.fill.Upper.before.Goals as goal

pub returns-clause-value : goal.returns-clause-value
returns-clause-value c = before_half c.args.self.now.size.count c.args.r (2 * c.members.result - (c.args.r + 1)) (omega arith) (omega arith)
