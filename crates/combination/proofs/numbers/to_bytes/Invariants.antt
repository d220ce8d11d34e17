use Rattle.std.proofs.Common.{◌≡◌, take}
use Rattle.combination.specs.Reading.{at_most}
use Rattle.combination.proofs.numbers.to_bytes.Given as goal

abbrev pub invariant-loop-v : goal.invariant-loop-v
invariant-loop-v l = l.bytes.items ≡ at_most 255 (take l.v-index l.values)
