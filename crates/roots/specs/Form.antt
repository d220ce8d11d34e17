-- Amounts under a table of correlations in hundredths: the quadratic form. Assumes nothing.
-- A table is a function from row and column, counted from 0, to an entry.
use Rattle.std.specs.Prelude.{◌≡◌, ℕ, zero, suc, ◌+◌, ◌*◌, ◌≤◌, List, [], ◌∷◌, length, slice_index}

-- f 0 + f 1 + .. + f (n - 1)
abbrev pub sum : ℕ → (ℕ → ℕ) → ℕ
sum zero f = 0
sum (suc n) f = sum n f + f n

-- the amount of the member at place i, from 0
abbrev pub at : List ℕ → ℕ → ℕ
at xs i = slice_index xs i

-- the amounts added
abbrev pub added : List ℕ → ℕ
added [] = 0
added (x ∷ xs) = x + added xs

-- the sum over all ordered pairs r, c below n of e r c × x r × y c
abbrev pub pairs : (ℕ → ℕ → ℕ) → ℕ → (ℕ → ℕ) → (ℕ → ℕ) → ℕ
pairs e n x y = sum n (λ r. sum n (λ c. e r c * (x r * y c)))

-- the form of the amounts xs under the table e
unfoldable pub form : (ℕ → ℕ → ℕ) → List ℕ → ℕ
form e xs = pairs e (length xs) (at xs) (at xs)

-- what a table is: symmetric, 100 on its diagonal, at most 100 elsewhere
pub record Sound (e : ℕ → ℕ → ℕ) : Type 0 where
  pub symmetric : (r c : ℕ) → e r c ≡ e c r
  pub diagonal : (r : ℕ) → e r r ≡ 100
  pub small : (r c : ℕ) → e r c ≤ 100
