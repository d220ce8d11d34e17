use Rattle.std.proofs.Common.{ap}
use Rattle.charges.specs.Leaves.{differs}
use Rattle.charges.specs.Meaning.{Meaning}
use Rattle.kinds.specs.Exact.{fall}
use Rattle.kinds.specs.Matches.{larger_exactly}
use Rattle.kinds.proofs.leaves.interest.Goals as goal

pub returns : goal.returns
returns c = λ ls tally.
    larger_exactly (fall 1 1 3) (fall 1 2 4) (differs c.larger.result).D (differs c.fall.result).D (differs c.fall-2.result).D ls c.larger.ensures (λ k. ap (λ (m : Meaning). m.D k) (c.fall.ensures ls tally)) (λ k. ap (λ (m : Meaning). m.D k) (c.fall-2.ensures ls tally))
