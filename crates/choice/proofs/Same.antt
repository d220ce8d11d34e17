-- Lists of charges that mean the same, and what working them out answers. Assumes nothing.
use Rattle.std.proofs.Common.{◌≡◌, ℕ, List, ◌∷◌, ◌++◌, Result, ap, ◌∙◌}
use Rattle.charges.specs.declared.beside.Beside.{Beside}
use Rattle.charges.specs.declared.charge.TooLargeAt.{TooLargeAt}
use Rattle.charges.specs.Worked.{Answered}
use Rattle.charges.specs.Meaning.{Meaning}

pub cons : (x y : Meaning) (xs ys : List Meaning) → x ≡ y → xs ≡ ys → (x ∷ xs) ≡ (y ∷ ys)
cons x y xs ys p q = ap (λ (m : Meaning). m ∷ xs) p ∙ ap (λ (l : List Meaning). y ∷ l) q

-- the formula's answer, with what each of its parts means put in its place
pub answered_same : (e f : ℕ → ℕ → ℕ) (t u : Beside) (a a' b b' c c' d d' m m' : List Meaning) (before after : List (ℕ × ℕ)) (r : Result (Unit {0}) TooLargeAt) → e ≡ f → t ≡ u → a ≡ a' → b ≡ b' → c ≡ c' → d ≡ d' → m ≡ m' → Answered e t (a ++ b ++ c ++ d) m before after r → Answered f u (a' ++ b' ++ c' ++ d') m' before after r
answered_same e f t u a a' b b' c c' d d' m m' before after r n o p q s v w h = rw (← n, ← o, ← p, ← q, ← s, ← v, ← w) h
