-- Quotients rounded up, and the limit of a charge. Assumes nothing.
use Rattle.std.specs.Prelude.{ℕ, ◌+◌, ◌-◌, ◌/◌, Bool, nat_lt}

-- a / b rounded up
abbrev pub over : ℕ → ℕ → ℕ
over a b = (a + (b - 1)) / b

-- too large for a charge
abbrev pub passes : ℕ → Bool
passes n = nat_lt 16777215 n
