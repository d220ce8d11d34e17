-- What a charge with a given low and high means. Assumes nothing.
use Rattle.std.specs.Prelude.{ℕ, ◌+◌, ◌*◌, cond, ◌&&◌, [], Some, None, Option, nat_le}
use Rattle.charges.specs.Meaning.{Meaning, means}
use Rattle.flat.specs.declared.flat.Flat.{Flat}

-- so many times the low and the high
abbrev pub flat : ℕ → ℕ → Meaning
flat low high = means (λ k. k * low) (λ k. k * high) 50 []

-- the low and the high that were given
abbrev pub given : Flat → ℕ × ℕ
given c = (c.low, c.high)

-- a charge has a high from its low to 50 above it
abbrev pub made : ℕ → ℕ → Option (ℕ × ℕ)
made low high = cond (nat_le low high && nat_le high (low + 50)) (Some (low, high)) None

-- of the value in the code
abbrev pub flatly : Flat → Meaning
flatly c = flat c.low c.high
