use Rattle.std.proofs.Common.{◌≡◌, ℕ, ◌<◌, ◌≤◌, false, ltb, List, [], ◌∷◌, ◌++◌, length, get_or, take, Some, None, Ok, Err, sym, ap, ◌∙◌, arith}
use Rattle.std.proofs.lemmas.List.{take_more, length-take-le}
use Rattle.std.proofs.lemmas.Result.{err_from_is_err_and}
use Rattle.std.proofs.lemmas.Bool.Decides.{nat_tests}
use Rattle.roots.specs.declared.amounts.AmountFault.{AmountFault}
use Rattle.roots.specs.First.{first_above}
use Rattle.roots.specs.Answers.{amounts_fault, push_fault, told}
use Rattle.roots.specs.Held.{held}
use Rattle.roots.proofs.Firsts.{none_more, found_at}
use Rattle.roots.proofs.amounts.Amounts.from_slice.Goals as goal

-- an amount that is refused behind the first i is the first above the limit
refused : (xs ys : List ℕ) (i : ℕ) (e : AmountFault) → length xs ≤ 16 → i < length xs → ys ≡ take i xs → first_above 16777215 (take i xs) ≡ None → Err e ≡ told (push_fault ys (get_or xs i 0)) → amounts_fault xs ≡ Some e
refused xs ys i e few b front h t =
    let many : length ys ≡ i = ap length front ∙ length-take-le i xs (omega arith) in
    grind (arith, nat_tests, found_at (ltb 16777215) 0 xs i b h)

-- one that is taken is within it
taken : (ys : List ℕ) (x : ℕ) → Ok tt ≡ told (push_fault ys x) → ltb 16777215 x ≡ false
taken ys x t = grind (arith, nat_tests)

pub loop-amount-preserved : goal.loop-amount-preserved
loop-amount-preserved c =
    let xs = c.args.given.now in
    let i = c.loop-amount.amount-index in
    let did = c.in_ok-push.ensures in (
      did.after ∙ ap (λ ys. ys ++ get_or xs i 0 ∷ []) c.loop-amount.invariant.0 ∙ sym (take_more xs i 0 c.loop-amount-test.true),
      none_more (ltb 16777215) 0 xs i c.loop-amount-test.true c.loop-amount.invariant.1 (taken (held c.loop-amount.amounts) (get_or xs i 0) did.answer),
    )

pub returns-in_err-push : goal.returns-in_err-push
returns-in_err-push c =
    let p = err_from_is_err_and c.from_residual.result c.from_residual.ensures.1 in
    rw (p.1, p.2) (refused c.args.given.now (held c.loop-amount.amounts) c.loop-amount.amount-index _ c.if-given-gt-MOST.false c.loop-amount-test.true c.loop-amount.invariant.0 c.loop-amount.invariant.1 c.in_err-push.ensures.answer)
