use Rattle.std.proofs.Common.{take}
use Rattle.lines.proofs.Adds.{Adds}
use Rattle.lines.proofs.totals.Totals.of.Given as goal

abbrev pub invariant-loop-line : goal.invariant-loop-line
invariant-loop-line l = Adds l.sums (take l.line-index l.lines)
