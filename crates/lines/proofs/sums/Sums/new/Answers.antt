use Rattle.std.proofs.Common.{◌+◌, ◌*◌, arith}
use Rattle.std.proofs.lemmas.Bool.Decides.{nat_tests}
use Rattle.lines.proofs.Cells.{nones}
use Rattle.lines.proofs.sums.Sums.new.Goals as goal

pub returns : goal.returns
returns c = λ k d. let z = nones c.default.result c.default.ensures 512 (k * 16 + d) in grind (arith, nat_tests)
