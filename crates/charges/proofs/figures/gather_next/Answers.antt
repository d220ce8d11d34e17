use Rattle.std.proofs.Common.{arith}
use Rattle.charges.specs.Held.{held}
use Rattle.charges.proofs.Gathering.{told_within}
use Rattle.charges.proofs.figures.gather_next.Goals as goal

pub map_err-requires : goal.map_err-requires
map_err-requires g c = λ e is _ _ _ _ _.
    omega (arith, told_within (g.Ms.Members.each c.args.members.now) (held c.args.pairs.now) (held c.gather.new.pairs) c.gather.result e c.gather.ensures is, g.met.Ms.Members.counted c.args.members.now, c.requires.room, c.len.ensures.value)
