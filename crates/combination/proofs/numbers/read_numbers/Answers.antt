use Rattle.std.proofs.Common.{◌≡◌, ◌+◌, ◌^◌, ◌-◌, ◌∙◌, [], length, min, cond, drop, Some, None, sym, ap, rules, arith, length-drop}
use Rattle.std.proofs.lemmas.Result.{err_from_is_err_and}
use Rattle.combination.specs.declared.numbers.LineFault.TheVariants.{NoNumber}
use Rattle.combination.specs.Reading.{words, digits, number_behind}
use Rattle.combination.proofs.Words.{words_few}
use Rattle.combination.proofs.Listing.{here, stopped, still_right, still_kept, right_throughout, all_kept}
use Rattle.combination.proofs.numbers.read_numbers.Goals as goal

pub overflow_add-count : goal.overflow_add-count
overflow_add-count c =
    let at = here (words c.args.line.now) c.loop-word.count c.in-Some.word.now (words c.in-Some.behind.now) (sym c.loop-word.invariant.left ∙ c.in-Some.ensures.0) in
    omega (arith, at.0, words_few c.args.line.now)

pub loop-word-preserved : goal.loop-word-preserved
loop-word-preserved c =
    let ws = words c.args.line.now in
    let i = c.loop-word.count in
    let at = here ws i c.in-Some.word.now (words c.in-Some.behind.now) (sym c.loop-word.invariant.left ∙ c.in-Some.ensures.0) in
    let some : c.number.result ≡ Some c.in_ok-n.n = search rules in
    let is = ap (λ w. cond (digits w) (Some (min (number_behind 0 w) (2 ^ 32 - 1))) None) at.1 ∙ sym c.number.ensures ∙ some in
    record {
      left = sym at.2;
      within = omega (arith, at.0);
      right = still_right ws i at.0 c.loop-word.invariant.right c.in_ok-n.n is;
      kept = still_kept ws i at.0 c.loop-word.invariant.right c.in_ok-n.n is c.try_push.result c.loop-word.numbers c.try_push.new.self c.loop-word.invariant.kept c.try_push.ensures.variant c.try_push.ensures.ok c.try_push.ensures.err c.try_push.ensures.full;
    }

pub returns-in_err-n : goal.returns-in_err-n
returns-in_err-n c =
    let ws = words c.args.line.now in
    let i = c.loop-word.count in
    let at = here ws i c.in-Some.word.now (words c.in-Some.behind.now) (sym c.loop-word.invariant.left ∙ c.in-Some.ensures.0) in
    let none : c.number.result ≡ None = search rules in
    let is = ap (λ w. cond (digits w) (Some (min (number_behind 0 w) (2 ^ 32 - 1))) None) at.1 ∙ sym c.number.ensures ∙ none in
    let fault : c.in_err-n.field-0.0 ≡ NoNumber (c.loop-word.count + 1) = search rules in
    let p = err_from_is_err_and c.from_residual.result c.from_residual.ensures.1 in
    rw (p.1, p.2, fault) (stopped ws i at.0 c.loop-word.invariant.right is)

pub returns-then-count-gt-MOST : goal.returns-then-count-gt-MOST
returns-then-count-gt-MOST c =
    let ws = words c.args.line.now in
    let left : drop c.loop-word.count (words c.args.line.now) ≡ [] = sym c.loop-word.invariant.left ∙ c.in_default.ensures in
    let all : c.loop-word.count ≡ length (words c.args.line.now) = omega (arith, length-drop c.loop-word.count (words c.args.line.now), ap length left, c.loop-word.invariant.within) in
    (right_throughout ws c.loop-word.count all c.loop-word.invariant.right, all, c.if-count-gt-MOST.true)

pub returns : goal.returns
returns c =
    let ws = words c.args.line.now in
    let left : drop c.loop-word.count (words c.args.line.now) ≡ [] = sym c.loop-word.invariant.left ∙ c.in_default.ensures in
    let all : c.loop-word.count ≡ length (words c.args.line.now) = omega (arith, length-drop c.loop-word.count (words c.args.line.now), ap length left, c.loop-word.invariant.within) in
    (right_throughout ws c.loop-word.count all c.loop-word.invariant.right, omega (arith, all), all_kept ws c.loop-word.count all c.loop-word.numbers.items c.loop-word.invariant.kept c.if-count-gt-MOST.false)
