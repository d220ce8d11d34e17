-- The pairs that are held, and bounds of all pairs of an array after a write. Assumes nothing.
use Rattle.std.proofs.Common.{◌≡◌, ℕ, zero, suc, ◌<◌, List, [], ◌∷◌, length, get_or, set, arith}
use Rattle.std.proofs.lemmas.List.{length-take-le}
use Rattle.charges.specs.declared.pairs.Pairs.{Pairs}
use Rattle.charges.specs.Held.{held}

module _ (f : ℕ × ℕ → ℕ) (n : ℕ) where
  pub set_below : (ps : List (ℕ × ℕ)) (i : ℕ) (v : ℕ × ℕ) → f v < n → ((k : ℕ) → f (get_or ps k (0, 0)) < n) → (k : ℕ) → f (get_or (set ps i v) k (0, 0)) < n
  set_below [] i v a h k = h k
  set_below (p ∷ ps) zero v a h zero = a
  set_below (p ∷ ps) zero v a h (suc k) = h (suc k)
  set_below (p ∷ ps) (suc i) v a h zero = h zero
  set_below (p ∷ ps) (suc i) v a h (suc k) = set_below ps i v a (λ m. h (suc m)) k

pub held_length : (p : Pairs) → length (held p) ≡ p.len
held_length p = length-take-le p.len p.values (omega (arith, p.full, p.few))
