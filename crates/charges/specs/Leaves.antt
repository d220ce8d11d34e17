-- What the charges without members mean. Assumes nothing.
use Rattle.std.specs.Prelude.{ℕ, ◌-◌, ◌*◌, ◌/◌, []}
use Rattle.roots.specs.Root.{lower, upper}
use Rattle.charges.specs.declared.difference.Difference.{Difference}
use Rattle.charges.specs.declared.rate.Parts.{Parts}
use Rattle.charges.specs.declared.rate.Parts.TheVariants.{Hundredths, TenThousandths, Millionths}
use Rattle.charges.specs.declared.rate.Rate.{Rate}
use Rattle.charges.specs.declared.squares.RootOfSquares.{RootOfSquares}
use Rattle.charges.specs.Meaning.{Meaning, means}
use Rattle.charges.specs.Quotients.{over}

-- losses less gains, 0 where that is negative; exact
abbrev pub difference : ℕ → ℕ → Meaning
difference losses gains = means (λ k. k * losses - k * gains) (λ k. k * losses - k * gains) 0 []

-- a total times n, divided once by d
abbrev pub rate : ℕ → ℕ → ℕ → Meaning
rate total n d = means (λ k. k * total * n / d) (λ k. over (k * total * n) d) 1 []

-- the root of a total of squares
abbrev pub square_root : ℕ → Meaning
square_root total = means (λ k. lower (100 * (k * k * total))) (λ k. upper (100 * (k * k * total))) 1 []

abbrev pub parts : Parts → ℕ
parts Hundredths = 100
parts TenThousandths = 10000
parts Millionths = 1000000

-- of the values in the code
abbrev pub differs : Difference → Meaning
differs c = difference c.losses c.gains

abbrev pub rated : Rate → Meaning
rated c = rate c.total c.numerator (parts c.parts)

abbrev pub rooted : RootOfSquares → Meaning
rooted c = square_root c.total
