use Rattle.std.proofs.Common.{◌/◌, ◌%◌, rules, tests, arith}
use Rattle.roots.specs.Cells.{filled}
use Rattle.roots.proofs.Fill.{made_by}
use Rattle.roots.proofs.table.fill.Upper.cells.Goals as goal

pub returns : goal.returns
returns c = λ k b. made_by _ (λ j. filled c.args.self.now.size.count c.args.self.now.given.now (j / 16) (j % 16)) _ (λ j y q r. search (rules, tests)) c.from_fn.result 0 256 c.from_fn.ensures.items.each k (omega arith) b
