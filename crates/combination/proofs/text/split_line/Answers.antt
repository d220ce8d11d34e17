use Rattle.std.proofs.Common.{◌∙◌, sym, rules, tests}
use Rattle.std.proofs.lemmas.Iterator.{YieldsList-from_slice}
use Rattle.std.proofs.lemmas.Iterator.Search.{position_from_yields_List}
use Rattle.combination.specs.Reading.{newline}
use Rattle.combination.proofs.Words.{cut, whole}
use Rattle.combination.proofs.text.split_line.Goals as goal

pub returns-in-Some : goal.returns-in-Some
returns-in-Some c =
    let at = position_from_yields_List newline _ _ c.position.result c.position.ensures.ran (YieldsList-from_slice c.args.text.now cc) (λ x b q k. search (rules, tests)) in
    let parts = cut newline c.args.text.now c.in-Some.end (sym at ∙ c.in-Some.is) in
    record { front = parts.0; back = parts.1 }

pub returns-in-None : goal.returns-in-None
returns-in-None c =
    let at = position_from_yields_List newline _ _ c.position.result c.position.ensures.ran (YieldsList-from_slice c.args.text.now cc) (λ x b q k. search (rules, tests)) in
    let parts = whole newline c.args.text.now (sym at ∙ c.in-None.is) in
    record { front = parts.0; back = parts.1 }
