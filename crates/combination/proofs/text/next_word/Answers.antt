use Rattle.std.proofs.Common.{length, sym, ap, ◌∙◌, rules, tests}
use Rattle.std.specs.Option.{unwrap_or}
use Rattle.std.proofs.lemmas.Iterator.{YieldsList-from_slice}
use Rattle.std.proofs.lemmas.Iterator.Search.{position_from_yields_List}
use Rattle.combination.specs.Reading.{blank}
use Rattle.combination.proofs.Words.{solid, nothing_left, first_or_end, word_first, shorter}
use Rattle.combination.proofs.text.next_word.Goals as goal

pub returns-in_err-start : goal.returns-in_err-start
returns-in_err-start c =
    let start = position_from_yields_List solid _ _ c.position.result c.position.ensures.ran (YieldsList-from_slice c.args.text.now cc) (λ x b q k. search (rules, tests)) in
    rw c.from_residual.ensures (nothing_left c.args.text.now (sym start ∙ c.in_err-start.was))

pub returns : goal.returns
returns c =
    let start = position_from_yields_List solid _ _ c.position.result c.position.ensures.ran (YieldsList-from_slice c.args.text.now cc) (λ x b q k. search (rules, tests)) in
    let end = position_from_yields_List blank _ _ c.position-2.result c.position-2.ensures.ran (YieldsList-from_slice c.split_at.result.1.now cc) (λ x b q k. search (rules, tests)) in
    let some = sym start ∙ c.in_ok-start.was in
    let n = c.unwrap_or-end.ensures ∙ ap (λ o. unwrap_or o (length c.split_at.result.1.now)) end ∙ first_or_end blank c.split_at.result.1.now in (
      word_first c.args.text.now c.split_at.result.1.now _ _ c.in_ok-start.start c.unwrap_or-end.result some c.split_at.ensures.back n c.split_at-2.ensures.front c.split_at-2.ensures.back,
      shorter c.args.text.now c.split_at.result.1.now _ _ c.in_ok-start.start c.unwrap_or-end.result some c.split_at.ensures.back n c.split_at-2.ensures.front c.split_at-2.ensures.back,
    )
