use Rattle.std.proofs.Common.{rules, tests, ltb}
use Rattle.std.proofs.lemmas.Iterator.{YieldsList-from_slice}
use Rattle.std.proofs.lemmas.Iterator.Search.{position_from_yields_List}
use Rattle.roots.proofs.Firsts.{first_position}
use Rattle.roots.proofs.table.fill.first_above_100.Goals as goal

pub returns : goal.returns
returns c =
    let at = position_from_yields_List (ltb 100) _ _ c.position.result c.position.ensures.ran (YieldsList-from_slice c.args.given.now cc) (λ x b q k. search (rules, tests)) in
    first_position (ltb 100) c.args.given.now c.position.result c.map.result at (search (rules, tests))
