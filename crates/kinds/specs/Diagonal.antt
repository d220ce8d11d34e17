-- The form with 100 on the diagonal and 0 elsewhere is a hundred times the squares. Assumes nothing.
use Rattle.std.specs.Prelude.{◌≡◌, ℕ, zero, suc, ◌+◌, ◌*◌, Bool, true, false, cond, ◌&&◌, ltb, List, [], ◌∷◌, map, length, sum_by, ◌==◌, nat_eq, nat_lt, refl}
use Rattle.std.proofs.Common.{ap, sym, ◌∙◌, inl, inr, arith}
use Rattle.std.proofs.lemmas.List.{get_or_past}
use Rattle.std.proofs.lemmas.List.Sums.{sum_by-cons}
use Rattle.std.proofs.lemmas.Bool.{and_parts, eqb-true, eqb-false, ltb-false, cases_Bool, cond-true, cond-false}
use Rattle.std.proofs.lemmas.Bool.Decides.{nat_tests}
use Rattle.roots.specs.Cells.{identity}
use Rattle.roots.specs.Form.{sum, at, form}
use Rattle.roots.proofs.Sums.{sum_eq, sum_mul, sum_front}
use Rattle.lines.specs.declared.fields.Fields.{Fields}
use Rattle.lines.specs.Totals.{part, total}
use Rattle.lines.specs.Weights.{square, weight}
use Rattle.lines.proofs.Bounds.{square_weight}
use Rattle.kinds.specs.Exact.{amounts}

-- one more place of a row: 100 times the square from place r on, 0 before it
turn : (n r s a b : ℕ) → s ≡ cond (nat_lt r n) (100 * a) 0 → (r ≡ n → b ≡ a) → s + cond (r == n) 100 0 * b ≡ cond (nat_lt r (suc n)) (100 * a) 0
turn n r s a b h same =
    elim (cases_Bool (r == n)) [
      | inl e ↦
          let c = ap (λ (m : ℕ). m * b) (cond-true (r == n) 100 0 e) in
          let here = eqb-true r n e in
          let small : ltb r n ≡ false = grind (arith, nat_tests) in
          let large : ltb r (suc n) ≡ true = grind (arith, nat_tests) in
          omega (arith, c, same here, h, cond-false (nat_lt r n) (100 * a) 0 small, cond-true (nat_lt r (suc n)) (100 * a) 0 large)
      | inr e ↦
          let c = ap (λ (m : ℕ). m * b) (cond-false (r == n) 100 0 e) in
          let other = eqb-false r n e in
          let level : ltb r (suc n) ≡ ltb r n = grind (arith, nat_tests) in
          omega (arith, c, h, ap (λ (t : Bool). cond t (100 * a) 0) level)
    ]

row : (n r : ℕ) (x : ℕ → ℕ) → sum n (λ c. identity r c * (x r * x c)) ≡ cond (nat_lt r n) (100 * (x r * x r)) 0
row zero r x = grind (arith, nat_tests)
row (suc n) r x = turn n r (sum n (λ c. identity r c * (x r * x c))) (x r * x r) (x r * x n) (row n r x) (λ e. ap (λ (m : ℕ). x r * x m) (sym e))

full_row : (xs : List ℕ) (r : ℕ) → sum (length xs) (λ c. identity r c * (at xs r * at xs c)) ≡ 100 * (at xs r * at xs r)
full_row xs r =
    elim (cases_Bool (nat_lt r (length xs))) [
      | inl e ↦ row (length xs) r (at xs) ∙ cond-true _ _ _ e
      | inr e ↦
          let z : at xs r ≡ 0 = get_or_past xs r 0 (ltb-false r (length xs) e) in
          let zz : at xs r * at xs r ≡ 0 = ap (λ (m : ℕ). m * at xs r) z ∙ (omega arith) in
          row (length xs) r (at xs) ∙ cond-false _ _ _ e ∙ (omega (arith, zz))
    ]

abbrev squared : List ℕ → ℕ
squared xs = sum_by (λ x. x * x) xs

by_places : (xs : List ℕ) → sum (length xs) (λ i. at xs i * at xs i) ≡ squared xs
by_places [] = refl
by_places (x ∷ xs) = omega (arith, sum_front (length xs) (λ i. at (x ∷ xs) i * at (x ∷ xs) i), by_places xs, sum_by-cons (λ x. x * x) x xs)

diagonal : (xs : List ℕ) → form identity xs ≡ 100 * squared xs
unfolding form
diagonal xs =
    sum_eq (length xs) _ (λ r. 100 * (at xs r * at xs r)) (full_row xs) ∙ sum_mul (length xs) 100 (λ r. at xs r * at xs r) ∙ ap (λ (m : ℕ). 100 * m) (by_places xs)

-- the weights of a squared kind are the squares of its amounts
total_squares : (kind : ℕ) → square kind ≡ true → (ls : List Fields) → total kind 0 ls ≡ squared (amounts kind ls)
total_squares kind h [] = refl
total_squares kind h (l ∷ ls) =
    let test = l.kind == kind && nat_eq l.class 0 in
    let more = sum_by-cons (part weight kind 0) l ls in
    let rest = total_squares kind h ls in
    let firsts = λ (xs : List Fields). squared (map (λ l. l.first) xs) in
    elim (cases_Bool test) [
      | inl e ↦
          let of_kind = eqb-true l.kind kind (and_parts (l.kind == kind) (l.class == 0) e).0 in
          let here : part weight kind 0 l ≡ l.first * l.first = cond-true _ _ _ e ∙ square_weight l (ap square of_kind ∙ h) in
          let there : squared (amounts kind (l ∷ ls)) ≡ l.first * l.first + squared (amounts kind ls) = ap firsts (cond-true test _ _ e) ∙ sum_by-cons (λ x. x * x) l.first (amounts kind ls) in
          omega (arith, more, rest, here, there)
      | inr e ↦
          let here : part weight kind 0 l ≡ 0 = cond-false _ _ _ e in
          let there : squared (amounts kind (l ∷ ls)) ≡ squared (amounts kind ls) = ap firsts (cond-false test _ _ e) in
          omega (arith, more, rest, here, there)
    ]

pub squares_form : (kind : ℕ) → square kind ≡ true → (ls : List Fields) → 100 * total kind 0 ls ≡ form identity (amounts kind ls)
squares_form kind h ls = ap (λ (m : ℕ). 100 * m) (total_squares kind h ls) ∙ sym (diagonal (amounts kind ls))
