-- The cells of sums. Assumes nothing.
use Rattle.std.proofs.Common.{◌≡◌, ℕ, zero, suc, ◌≤◌, ◌<◌, List, [], ◌∷◌, length, get_or, replicate, sum_by, refl, ap, ◌∙◌, arith}
use native.Mathlib.Decide.{dec_le}
use Rattle.std.proofs.lemmas.Bool.Decides.{nat_tests}
use Rattle.std.proofs.lemmas.List.Sums.{sum_by-cons}
use Rattle.roots.specs.Form.{sum}
use Rattle.roots.proofs.Sums.{sum_at, sum_front}
use Rattle.lines.specs.declared.sums.Sum.{Sum}
use Rattle.lines.specs.declared.sums.Sums.{Sums}
use Rattle.lines.specs.Cells.{none, cell}

pub nones : (x : Sum) → (x.first ≡ 0) × ((x.second ≡ 0) × (x.count ≡ 0)) → (n i : ℕ) → get_or (replicate n x) i none ≡ none
nones x h zero i = refl
nones x h (suc n) zero =
    let made : ℕ → ℕ → ℕ → Sum = λ a b c. record { first = a; second = b; count = c } in
    ap (λ (n : ℕ). made n x.second x.count) h.0 ∙ ap (λ (n : ℕ). made 0 n x.count) h.1.0 ∙ ap (made 0 0) h.1.1
nones x h (suc n) (suc i) = nones x h n i

-- a list added by its places
pub by_places : {X : Type 0} (g : X → ℕ) (xs : List X) (n : ℕ) (d : X) → length xs ≡ n → sum_by g xs ≡ sum n (λ i. g (get_or xs i d))
by_places g [] zero d h = refl
by_places g [] (suc n) d h = absurd (omega arith)
by_places g (x ∷ xs) zero d h = absurd (omega arith)
by_places g (x ∷ xs) (suc n) d h =
    let rest = by_places g xs n d (omega arith) in
    omega (arith, sum_by-cons g x xs, rest, sum_front n (λ i. g (get_or (x ∷ xs) i d)))

-- the same below n alone
pub sum_below : (n : ℕ) (f g : ℕ → ℕ) → ((i : ℕ) → i < n → f i ≡ g i) → sum n f ≡ sum n g
sum_below zero f g h = refl
sum_below (suc n) f g h = omega (arith, sum_below n f g (λ i less. h i (omega arith)), h n (omega arith))

module _ (g : Sum → ℕ) where
  -- a kind's cells added
  pub row_is : (s : Sums) (kind : ℕ) (row : List Sum) → length row ≡ 16 → ((c : ℕ) → c < 16 → get_or row c none ≡ cell s kind c) → sum_by g row ≡ sum 16 (λ c. g (cell s kind c))
  row_is s kind row all each = by_places g row 16 none all ∙ sum_below 16 _ _ (λ c less. ap g (each c less))

  -- a cell is at most its kind's cells added
  pub cell_le : g none ≡ 0 → (s : Sums) (kind class : ℕ) → g (cell s kind class) ≤ sum 16 (λ c. g (cell s kind c))
  cell_le zero_of s kind class = elim (dec_le 16 class) [ yes p ↦ past p | no p ↦ sum_at 16 class (λ c. g (cell s kind c)) (omega arith) ]
    where
      past : 16 ≤ class → g (cell s kind class) ≤ sum 16 (λ c. g (cell s kind c))
      past h = let nothing : cell s kind class ≡ none = grind (arith, nat_tests) in omega (arith, ap g nothing)
