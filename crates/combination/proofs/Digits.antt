-- A number read digit by digit, with its value kept within a limit. Assumes nothing.
use Rattle.std.proofs.Common.{◌≡◌, ℕ, ◌+◌, ◌-◌, ◌*◌, ◌≤◌, min, List, [], ◌∷◌, ap, arith}
use native.Mathlib.Decide.{dec_le}
use Rattle.combination.specs.Reading.{number_behind}

behind_ge : (n : ℕ) (ds : List ℕ) → n ≤ number_behind n ds
behind_ge n [] = omega arith
behind_ge n (d ∷ ds) = let k = behind_ge (10 * n + (d - 48)) ds in omega arith

-- a value that passed the limit stays past it
pub capped : (limit n : ℕ) (ds : List ℕ) → min (number_behind (min n limit) ds) limit ≡ min (number_behind n ds) limit
capped limit n ds =
    elim (dec_le n limit) [
      | yes p ↦ ap (λ v. min (number_behind v ds) limit) (let e : min n limit ≡ n = omega arith in e)
      | no p ↦ (let a = behind_ge n ds in let b = behind_ge (min n limit) ds in omega arith)
    ]
