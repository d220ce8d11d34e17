-- Sums over the first places, and the sums over pairs that a form is made of. Assumes nothing.
use Rattle.std.proofs.Common.{◌≡◌, ℕ, zero, suc, ◌+◌, ◌-◌, ◌*◌, ◌<◌, ◌≤◌, List, [], ◌∷◌, length, refl, ap, ◌∙◌, mul-le-mul_right, mul-le-mul, mul-le-mul_left, add-one, arith}
use native.Mathlib.Decide.{dec_le}
use Rattle.std.proofs.lemmas.List.Sums.{sum_by-cons}
use Rattle.std.specs.List.{sum_by, zip}
use Rattle.roots.specs.Form.{sum, at, pairs, Sound}

-- the step of a loop that adds up
pub sum_next : (n t v : ℕ) (f : ℕ → ℕ) → t ≡ sum n f → v ≡ f n → t + v ≡ sum (n + 1) f
sum_next n t v f a b = let more : sum (n + 1) f ≡ sum n f + f n = rw add-one in omega arith

pub sum_eq : (n : ℕ) (f g : ℕ → ℕ) → ((i : ℕ) → f i ≡ g i) → sum n f ≡ sum n g
sum_eq zero f g h = refl
sum_eq (suc n) f g h = omega (arith, sum_eq n f g h, h n)

pub sum_below : (n : ℕ) (f g : ℕ → ℕ) → ((i : ℕ) → i < n → f i ≡ g i) → sum n f ≡ sum n g
sum_below zero f g h = refl
sum_below (suc n) f g h = omega (arith, sum_below n f g (λ i b. h i (omega arith)), h n (omega arith))

pub sum_most : (n top : ℕ) (f : ℕ → ℕ) → ((i : ℕ) → i < n → f i ≤ top) → sum n f ≤ n * top
sum_most zero top f h = omega arith
sum_most (suc n) top f h = omega (arith, sum_most n top f (λ i b. h i (omega arith)), h n (omega arith))

pub sum_le : (n : ℕ) (f g : ℕ → ℕ) → ((i : ℕ) → f i ≤ g i) → sum n f ≤ sum n g
sum_le zero f g h = omega arith
sum_le (suc n) f g h = omega (arith, sum_le n f g h, h n)

pub sum_add : (n : ℕ) (f g : ℕ → ℕ) → sum n (λ i. f i + g i) ≡ sum n f + sum n g
sum_add zero f g = refl
sum_add (suc n) f g = omega (arith, sum_add n f g)

pub sum_mul : (n k : ℕ) (f : ℕ → ℕ) → sum n (λ i. k * f i) ≡ k * sum n f
sum_mul zero k f = omega arith
sum_mul (suc n) k f = omega (arith, sum_mul n k f)

-- one place of a sum
pub sum_at : (n i : ℕ) (f : ℕ → ℕ) → i < n → f i ≤ sum n f
sum_at zero i f h = omega arith
sum_at (suc n) i f h =
    elim (dec_le n i) [ yes p ↦ (let e : i ≡ n = omega arith in rw e (omega arith)) | no p ↦ omega (arith, sum_at n i f (omega arith)) ]

-- f 0 stands first
pub sum_front : (n : ℕ) (f : ℕ → ℕ) → sum (suc n) f ≡ f 0 + sum n (λ i. f (suc i))
sum_front zero f = omega arith
sum_front (suc n) f = omega (arith, sum_front n f)

-- two lists multiplied place by place
pub sum_zip : (ys zs : List ℕ) → length ys ≤ length zs → sum_by (λ p. p.0 * p.1) (zip ys zs) ≡ sum (length ys) (λ i. at ys i * at zs i)
sum_zip [] zs h = refl
sum_zip (y ∷ ys) [] h = omega arith
sum_zip (y ∷ ys) (z ∷ zs) h = omega (arith, sum_by-cons (λ p. p.0 * p.1) (y, z) (zip ys zs), sum_zip ys zs (omega arith), sum_front (length ys) (λ i. at (y ∷ ys) i * at (z ∷ zs) i))

two_squares : (a b : ℕ) → 2 * (a * b) ≤ a * a + b * b
two_squares a b = elim (dec_le a b) [ yes p ↦ above a (b - a) b (omega arith) | no p ↦ below b (a - b) a (omega arith) ]
  where
    above : (a d b : ℕ) → b ≡ a + d → 2 * (a * b) ≤ a * a + b * b
    above a d b e = rw e (omega arith)

    below : (b d a : ℕ) → a ≡ b + d → 2 * (a * b) ≤ a * a + b * b
    below b d a e = rw e (omega arith)

two_sum : (n a : ℕ) (x : ℕ → ℕ) → 2 * (sum n x * a) ≤ sum n (λ i. x i * x i) + n * (a * a)
two_sum zero a x = omega arith
two_sum (suc n) a x = omega (arith, two_sum n a x, two_squares (x n) a)

-- Cauchy: (x 0 + .. + x (n - 1))² ≤ n × (x 0² + .. + x (n - 1)²)
pub square_sum : (n : ℕ) (x : ℕ → ℕ) → sum n x * sum n x ≤ n * sum n (λ i. x i * x i)
square_sum zero x = omega arith
square_sum (suc n) x = omega (arith, square_sum n x, two_sum n (x n) x)

-- a sum over pairs, term by term
pub pairs_eq : (n : ℕ) (f g : ℕ → ℕ → ℕ) → ((r c : ℕ) → f r c ≡ g r c) → sum n (λ r. sum n (λ c. f r c)) ≡ sum n (λ r. sum n (λ c. g r c))
pairs_eq n f g h = sum_eq n _ _ (λ r. sum_eq n _ _ (h r))

-- a sum over pairs of two terms each
pairs_plus : (n : ℕ) (f g : ℕ → ℕ → ℕ) → sum n (λ r. sum n (λ c. f r c + g r c)) ≡ sum n (λ r. sum n (λ c. f r c)) + sum n (λ r. sum n (λ c. g r c))
pairs_plus n f g = sum_eq n _ _ (λ r. sum_add n (f r) (g r)) ∙ sum_add n (λ r. sum n (f r)) (λ r. sum n (g r))

module _ (e : ℕ → ℕ → ℕ) (n : ℕ) where
  pub pairs_le : (x y u v : ℕ → ℕ) → ((i : ℕ) → x i ≤ u i) → ((i : ℕ) → y i ≤ v i) → pairs e n x y ≤ pairs e n u v
  pairs_le x y u v h k = sum_le n _ _ (λ r. sum_le n _ _ (λ c. mul-le-mul_left (e r c) (mul-le-mul (h r) (k c))))

  pub pairs_add : (x w y : ℕ → ℕ) → pairs e n (λ i. x i + w i) y ≡ pairs e n x y + pairs e n w y
  pairs_add x w y =
      pairs_eq n _ (λ r c. e r c * (x r * y c) + e r c * (w r * y c)) (λ r c. omega arith)
      ∙ pairs_plus n (λ r c. e r c * (x r * y c)) (λ r c. e r c * (w r * y c))

  pub pairs_add_right : (x y w : ℕ → ℕ) → pairs e n x (λ i. y i + w i) ≡ pairs e n x y + pairs e n x w
  pairs_add_right x y w =
      pairs_eq n _ (λ r c. e r c * (x r * y c) + e r c * (x r * w c)) (λ r c. omega arith)
      ∙ pairs_plus n (λ r c. e r c * (x r * y c)) (λ r c. e r c * (x r * w c))

  pub pairs_mul : (j : ℕ) (x : ℕ → ℕ) → pairs e n (λ i. j * x i) (λ i. j * x i) ≡ (j * j) * pairs e n x x
  pairs_mul j x =
      pairs_eq n _ (λ r c. (j * j) * (e r c * (x r * x c))) (λ r c. omega arith)
      ∙ sum_eq n _ _ (λ r. sum_mul n (j * j) (λ c. e r c * (x r * x c)))
      ∙ sum_mul n (j * j) (λ r. sum n (λ c. e r c * (x r * x c)))

  -- entries of at most 100
  pub pairs_most : (x y : ℕ → ℕ) → ((r c : ℕ) → e r c ≤ 100) → pairs e n x y ≤ 100 * (sum n x * sum n y)
  pairs_most x y h =
      let row : (r : ℕ) → sum n (λ c. e r c * (x r * y c)) ≤ (100 * sum n y) * x r =
      λ r.
      let one = sum_le n (λ c. e r c * (x r * y c)) (λ c. (100 * x r) * y c) (λ c. let k = mul-le-mul_right (x r * y c) (h r c) in omega arith) in
      let two = sum_mul n (100 * x r) y in
      omega arith
      in
      let all = sum_le n (λ r. sum n (λ c. e r c * (x r * y c))) (λ r. (100 * sum n y) * x r) row in
      let two = sum_mul n (100 * sum n y) x in
      omega arith

-- one member more, from its column before the diagonal
pub pairs_more : (e : ℕ → ℕ → ℕ) → Sound e → (n : ℕ) (x : ℕ → ℕ) → pairs e (n + 1) x x ≡ pairs e n x x + x n * (100 * x n + 2 * sum n (λ c. e n c * x c))
pairs_more e s n x =
    let grown : pairs e (n + 1) x x ≡ sum n (λ r. sum n (λ c. e r c * (x r * x c)) + e r n * (x r * x n)) + (sum n (λ c. e n c * (x n * x c)) + e n n * (x n * x n)) = rw add-one in
    let split = sum_add n (λ r. sum n (λ c. e r c * (x r * x c))) (λ r. e r n * (x r * x n)) in
    let row : sum n (λ c. e n c * (x n * x c)) ≡ x n * sum n (λ c. e n c * x c) = sum_eq n _ (λ c. x n * (e n c * x c)) (λ c. omega arith) ∙ sum_mul n (x n) (λ c. e n c * x c) in
    let column : sum n (λ r. e r n * (x r * x n)) ≡ sum n (λ c. e n c * (x n * x c)) = sum_eq n _ _ (λ r. ap (λ v. v * (x r * x n)) (s.symmetric r n) ∙ ap (λ v. e n r * v) (omega arith)) in
    let corner : e n n * (x n * x n) ≡ 100 * (x n * x n) = ap (λ v. v * (x n * x n)) (s.diagonal n) in
    omega arith
