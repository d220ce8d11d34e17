-- The roots of forms under a sound table keep the laws. Assumes nothing.
use Rattle.std.proofs.Common.{◌≡◌, ℕ, zero, suc, ◌+◌, ◌*◌, ◌<◌, ◌≤◌, List, [], ◌∷◌, length, refl, ap, mul-le-mul_right, mul-le-mul, arith}
use native.Mathlib.Decide.{dec_le}
use Rattle.std.proofs.lemmas.List.{get_or_past}
use Rattle.roots.specs.Form.{sum, pairs, at, added, form, Sound}
use Rattle.roots.specs.Root.{lower, upper, ceiling_root}
use Rattle.roots.specs.Laws.{Each, Wider, Lawful}
use Rattle.roots.proofs.RootLaws.{square_le, le_from_squares, lower_next, lower_greatest, lower_le_upper, upper_least, upper_next, upper_exact, exact_when_equal, lower_rises, upper_rises, lower_finer, upper_finer, ceiling}
use Rattle.roots.proofs.Sums.{sum_at, sum_mul, sum_front, square_sum, pairs_eq, pairs_le, pairs_add, pairs_add_right, pairs_mul, pairs_most}

-- the form over a number of members that is known otherwise
form_at : (e : ℕ → ℕ → ℕ) (n : ℕ) (xs : List ℕ) → length xs ≡ n → form e xs ≡ pairs e n (at xs) (at xs)
unfolding form
form_at e n xs h = rw h

pub added_sum : (xs : List ℕ) → added xs ≡ sum (length xs) (at xs)
added_sum [] = refl
added_sum (x ∷ xs) = omega (arith, added_sum xs, sum_front (length xs) (at (x ∷ xs)))

pub form_rises : (e : ℕ → ℕ → ℕ) (xs ys : List ℕ) → Each (λ x y. x ≤ y) xs ys → form e xs ≤ form e ys
form_rises e xs ys h =
    let n = length ys in
    let le = pairs_le e n (at xs) (at xs) (at ys) (at ys) h.each h.each in
    omega (arith, form_at e n xs h.as_many, form_at e n ys refl)

pub form_finer_down : (e : ℕ → ℕ → ℕ) (j : ℕ) (xs ys : List ℕ) → Each (λ x y. j * x ≤ y) xs ys → (j * j) * form e xs ≤ form e ys
form_finer_down e j xs ys h =
    let n = length ys in
    let le = pairs_le e n (λ i. j * at xs i) (λ i. j * at xs i) (at ys) (at ys) h.each h.each in
    rw (form_at e n xs h.as_many, form_at e n ys refl) (omega (arith, pairs_mul e n j (at xs)))

pub form_finer_up : (e : ℕ → ℕ → ℕ) (j : ℕ) (xs ys : List ℕ) → Each (λ x y. y ≤ j * x) xs ys → form e ys ≤ (j * j) * form e xs
form_finer_up e j xs ys h =
    let n = length ys in
    let le = pairs_le e n (at ys) (at ys) (λ i. j * at xs i) (λ i. j * at xs i) h.each h.each in
    rw (form_at e n xs h.as_many, form_at e n ys refl) (omega (arith, pairs_mul e n j (at xs)))

-- 100 on the diagonal: the squares of the members are within the form
pub squares_within : (e : ℕ → ℕ → ℕ) (n : ℕ) (x : ℕ → ℕ) → ((r : ℕ) → e r r ≡ 100) → 100 * sum n (λ i. x i * x i) ≤ pairs e n x x
squares_within e n x h = let all = rows n (omega arith) in omega (arith, sum_mul n 100 (λ i. x i * x i))
  where
    rows : (k : ℕ) → k ≤ n → sum k (λ i. 100 * (x i * x i)) ≤ sum k (λ r. sum n (λ c. e r c * (x r * x c)))
    rows zero l = omega arith
    rows (suc k) l =
        let one = sum_at n k (λ c. e k c * (x k * x c)) (omega arith) in
        let own : e k k * (x k * x k) ≡ 100 * (x k * x k) = ap (λ v. v * (x k * x k)) (h k) in
        omega (arith, rows k (omega arith))

-- the amounts x, with the lower root l of their form, are q × (l + 1) together at most
total_most : (e : ℕ → ℕ → ℕ) → Sound e → (n q : ℕ) → n ≤ q * q → (x : ℕ → ℕ) → sum n x ≤ q * (lower (pairs e n x x) + 1)
total_most e s n q h x =
    bounded (sum n x) (sum n (λ i. x i * x i)) (pairs e n x x) (lower (pairs e n x x) + 1) (square_sum n x) (squares_within e n x s.diagonal) (lower_next (pairs e n x x))
  where
    bounded : (S Q F m : ℕ) → S * S ≤ n * Q → 100 * Q ≤ F → F < 100 * (m * m) → S ≤ q * m
    bounded S Q F m a c d =
        let most : Q ≤ m * m = omega arith in
        let k = mul-le-mul h most in
        le_from_squares S (q * m) (omega arith)

-- there are no members, or q is at least 1
times_root : (n q : ℕ) (w : ℕ → ℕ) → n ≤ q * q → sum n w ≤ q * sum n w
times_root zero q w h = omega arith
times_root (suc n) zero w h = omega arith
times_root (suc n) (suc q) w h = omega arith

-- amounts y that pass x by at most w: the form grows by 2 × 100 × S × W + 100 × W² at most
wider : (e : ℕ → ℕ → ℕ) → Sound e → (n q : ℕ) → n ≤ q * q → (x y w : ℕ → ℕ) → ((i : ℕ) → y i ≤ x i + w i) → upper (pairs e n y y) ≤ lower (pairs e n x x) + (1 + q * sum n w)
wider e s n q h x y w le =
    let v : ℕ → ℕ = λ i. x i + w i in
    let most = pairs_le e n y y v v le le in
    let split : pairs e n v v ≡ pairs e n x x + pairs e n x w + (pairs e n w x + pairs e n w w) =
    omega (arith, pairs_add e n x w v, pairs_add_right e n x x w, pairs_add_right e n w x w)
    in
    let bound = grown (pairs e n x x) (pairs e n x w) (pairs e n w x) (pairs e n w w) (sum n x) (sum n w) (lower (pairs e n x x) + 1) (lower_next (pairs e n x x)) (pairs_most e n x w s.small) (pairs_most e n w x s.small) (pairs_most e n w w s.small) (total_most e s n q h x) (times_root n q w h) in
    let top = upper_least (pairs e n y y) (lower (pairs e n x x) + 1 + q * sum n w) (omega (arith, most, split, bound)) in
    omega (arith, top)
  where
    grown : (F A B C S W m : ℕ) → F < 100 * (m * m) → A ≤ 100 * (S * W) → B ≤ 100 * (W * S) → C ≤ 100 * (W * W) → S ≤ q * m → W ≤ q * W → F + A + (B + C) ≤ 100 * ((m + q * W) * (m + q * W))
    grown F A B C S W m f a b c t u =
        let k = mul-le-mul_right W t in
        let l = square_le W (q * W) u in
        omega arith

pub narrow : (e : ℕ → ℕ → ℕ) → Sound e → (xs ys ws : List ℕ) → Wider xs ys ws → upper (form e ys) ≤ lower (form e xs) + (1 + ceiling_root (length ws) * added ws)
narrow e s xs ys ws h =
    let n = length ws in
    let k = wider e s n (ceiling_root n) (ceiling n).reaches (at xs) (at ys) (at ws) h.each in
    rw (form_at e n xs h.lows, form_at e n ys h.highs, added_sum ws) k

pub covers : (e : ℕ → ℕ → ℕ) → ((r : ℕ) → e r r ≡ 100) → (xs : List ℕ) (i : ℕ) → at xs i ≤ lower (form e xs)
covers e d xs i =
    elim (dec_le (length xs) i) [
      | yes p ↦ omega (arith, get_or_past xs i 0 p)
      | no p ↦
          let one = sum_at (length xs) i (λ r. at xs r * at xs r) (omega arith) in
          let all = squares_within e (length xs) (at xs) d in
          lower_greatest (form e xs) (at xs i) (omega (arith, form_at e (length xs) xs refl))
    ]

pub diversifies : (e : ℕ → ℕ → ℕ) → ((r c : ℕ) → e r c ≤ 100) → (xs : List ℕ) → upper (form e xs) ≤ added xs
diversifies e s xs =
    let all = pairs_most e (length xs) (at xs) (at xs) s in
    upper_least (form e xs) (added xs) (rw added_sum (omega (arith, form_at e (length xs) xs refl)))

pub lawful : (e : ℕ → ℕ → ℕ) → Sound e → (xs : List ℕ) → Lawful e xs
lawful e s xs =
    record {
      order = lower_le_upper (form e xs);
      close = upper_next (form e xs);
      exact = upper_exact (form e xs);
      inexact = exact_when_equal (form e xs);
      lower_rises = λ ys h. lower_rises (form e xs) (form e ys) (form_rises e xs ys h);
      upper_rises = λ ys h. upper_rises (form e xs) (form e ys) (form_rises e xs ys h);
      finer_down = λ j ys h. lower_finer j (form e xs) (form e ys) (form_finer_down e j xs ys h);
      finer_up = λ j ys h. upper_finer j (form e xs) (form e ys) (form_finer_up e j xs ys h);
      narrow = narrow e s xs;
      covers = covers e s.diagonal xs;
      diversifies = diversifies e s.small xs;
    }

-- a form under a table with the same entries
pub form_same : (e f : ℕ → ℕ → ℕ) (xs : List ℕ) → ((r c : ℕ) → e r c ≡ f r c) → form e xs ≡ form f xs
unfolding form
form_same e f xs h = pairs_eq (length xs) _ _ (λ r c. ap (λ v. v * (at xs r * at xs c)) (h r c))
