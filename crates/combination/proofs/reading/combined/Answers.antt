use Rattle.std.proofs.Common.{Ok, sym, ap, ◌∙◌}
use Rattle.roots.specs.Held.{members_of, held, correlation}
use Rattle.combination.specs.Reading.{words, numbers}
use Rattle.combination.proofs.Judging.{judged_by, combination_is}
use Rattle.combination.proofs.reading.combined.Goals as goal

pub returns-then-has_words : goal.returns-then-has_words
returns-then-has_words c =
    let amounts = c.in_ok-size.ensures in
    let entries = c.in_ok-table.ensures in
    sym (judged_by c.args.text.now _ _ _ _ c.split_line.ensures.front c.split_line.ensures.back c.split_line-2.ensures.front c.split_line-2.ensures.back c.if-text-gt-LONGEST.false (held c.in_ok-size.amounts) amounts.0 (members_of c.in_ok-size.size) amounts.1 (numbers (words c.split_line-2.result.0.now)) entries.0 _ c.if-has_words.ensures)

pub returns : goal.returns
returns c =
    let xs = held c.in_ok-size.amounts in
    let given = numbers (words c.split_line-2.result.0.now) in
    let n = members_of c.in_ok-size.size in
    let amounts = c.in_ok-size.ensures in
    let entries = c.in_ok-table.ensures in
    let roots = c.combined-low.ensures.value in
    sym (judged_by c.args.text.now _ _ _ _ c.split_line.ensures.front c.split_line.ensures.back c.split_line-2.ensures.front c.split_line-2.ensures.back c.if-text-gt-LONGEST.false xs amounts.0 n amounts.1 given entries.0 _ c.if-has_words.ensures ∙ ap Ok (combination_is xs given (correlation c.in_ok-table.table) n c.len.result c.form-form.result c.combined-low.result.0 c.combined-low.result.1 amounts.1 c.len.ensures.value c.form-form.ensures.value (ap (λ p. p.0) roots) (ap (λ p. p.1) roots) entries.1))
