use Rattle.std.proofs.Common.{arith}
use Rattle.charges.specs.Held.{held}
use Rattle.charges.proofs.Gathering.{told_within}
use Rattle.charges.proofs.members.Tuple2Members.gather.Goals as goal

pub map_err-requires-2 : goal.map_err-requires-2
map_err-requires-2 g c = λ e is _ _.
    omega (arith, told_within (g.R.Members.each c.args.self.now.1) (held c.push.new.self) (held c.gather.new.pairs) c.gather.result e c.gather.ensures is, g.met.R.Members.counted c.args.self.now.1, c.requires.room)
