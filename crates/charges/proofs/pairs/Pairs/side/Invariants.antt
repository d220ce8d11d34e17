use Rattle.std.proofs.Common.{◌≡◌, take}
use Rattle.roots.specs.Held.{held as amounts_held}
use Rattle.charges.specs.Held.{sides}
use Rattle.charges.proofs.pairs.Pairs.side.Given as goal

abbrev pub invariant-loop-pair : goal.invariant-loop-pair
invariant-loop-pair l = amounts_held l.amounts ≡ sides l.side (take l.pair-index l.pair-items)
