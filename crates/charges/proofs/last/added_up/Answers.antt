use Rattle.std.proofs.Common.{◌≡◌, ℕ, suc, ◌*◌, ◌<◌, ◌≤◌, List, [], ◌∷◌, length, refl, ap, ◌∙◌, arith}
use Rattle.std.specs.List.{sum}
use Rattle.std.proofs.lemmas.List.Sums.{sum_by-cons}
use Rattle.roots.specs.Form.{at, added}
use Rattle.charges.proofs.last.added_up.Goals as goal

sum_added : (xs : List ℕ) → sum xs ≡ added xs
sum_added [] = refl
sum_added (x ∷ xs) = omega (arith, sum_by-cons (λ x. x) x xs, sum_added xs)

small_sum : (xs : List ℕ) → ((i : ℕ) → at xs i < 16777216) → added xs ≤ length xs * 16777215
small_sum [] h = omega arith
small_sum (x ∷ xs) h = omega (arith, h 0, small_sum xs (λ i. h (suc i)))

pub summed-requires : goal.summed-requires
summed-requires c =
    let xs = c.as_slice.result.now in
    omega (arith, sum_added xs, small_sum xs c.as_slice.ensures.small, c.as_slice.ensures.few)

pub returns : goal.returns
returns c = c.summed.ensures ∙ sum_added c.as_slice.result.now ∙ ap added c.as_slice.ensures.value
