use Rattle.std.proofs.Common.{◌≡◌, ◌-◌, ◌^◌, ◌≤◌, min, drop}
use Rattle.combination.specs.Reading.{digits, number_behind}
use Rattle.combination.proofs.text.number.Given as goal

abbrev pub invariant-loop-b : goal.invariant-loop-b
invariant-loop-b l = (digits l.word ≡ digits (drop l.b-index l.word)) × (min (number_behind 0 l.word) (2 ^ 32 - 1) ≡ min (number_behind l.n (drop l.b-index l.word)) (2 ^ 32 - 1)) × (l.n ≤ 2 ^ 32 - 1)
