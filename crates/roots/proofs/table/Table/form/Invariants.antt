use Rattle.std.proofs.Common.{◌≡◌, ◌*◌, ◌^◌, ◌≤◌}
use Rattle.roots.specs.Form.{pairs, at}
use Rattle.roots.specs.Held.{correlation, held}
use Rattle.roots.proofs.table.Table.form.Given as goal

abbrev pub invariant-loop-r : goal.invariant-loop-r
invariant-loop-r l = (l.total ≡ pairs (correlation l.self) l.r (at (held l.amounts)) (at (held l.amounts))) × (l.total ≤ l.r * l.r * (100 * 2 ^ 48))
