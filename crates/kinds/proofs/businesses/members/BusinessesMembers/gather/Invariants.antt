use Rattle.charges.specs.Held.{held}
use Rattle.kinds.specs.Means.{businesses}
use Rattle.kinds.proofs.Asked.{Asked}
use Rattle.kinds.proofs.businesses.members.BusinessesMembers.gather.Given as goal

abbrev pub invariant-loop-i : goal.invariant-loop-i
invariant-loop-i l = Asked (businesses l.self) (held l.initial.pairs) l.i (held l.pairs)
