use Rattle.std.proofs.Common.{ℕ, zero, suc, ◌<◌, get_or, replicate, refl, arith, rules}
use Rattle.charges.proofs.pairs.Pairs.new.Goals as goal

zeros : (f : ℕ × ℕ → ℕ) → f (0, 0) < 16777216 → (n i : ℕ) → f (get_or (replicate n (0, 0)) i (0, 0)) < 16777216
zeros f h zero i = h
zeros f h (suc n) zero = h
zeros f h (suc n) (suc i) = zeros f h n i

pub invariant_of-result : goal.invariant_of-result
invariant_of-result c = record { full = refl; few = search rules; lows = zeros (λ p. p.0) (omega arith) 28; highs = zeros (λ p. p.1) (omega arith) 28 }
