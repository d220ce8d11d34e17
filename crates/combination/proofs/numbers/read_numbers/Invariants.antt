use Rattle.std.proofs.Common.{◌≡◌, ◌-◌, ◌^◌, ◌≤◌, length, take, drop, None}
use Rattle.combination.specs.Reading.{words, numbers, first_wrong, at_most}
use Rattle.combination.proofs.numbers.read_numbers.Given as goal

abbrev pub invariant-loop-word : goal.invariant-loop-word
invariant-loop-word l = record {
  left : words l.rest ≡ drop l.count (words l.line);
  within : l.count ≤ length (words l.line);
  right : first_wrong (take l.count (words l.line)) ≡ None;
  kept : l.numbers.items ≡ take 120 (at_most (2 ^ 32 - 1) (numbers (take l.count (words l.line))));
}

abbrev pub decreases-loop-word : goal.decreases-loop-word
decreases-loop-word l = length l.rest
