use Rattle.std.proofs.Common.{arith}
use Rattle.kinds.specs.BusinessLists.{widths_fifteen}
use Rattle.kinds.proofs.businesses.members.BusinessesMembers.added_widths.Goals as goal

pub returns : goal.returns
returns c = omega (arith, widths_fifteen c.args.self.now)
