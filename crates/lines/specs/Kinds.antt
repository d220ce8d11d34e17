-- The kinds of lines, their numbers and their rules. Assumes nothing.
use Rattle.std.specs.Prelude.{ℕ, cond, List, [], ◌∷◌, Some, None, Option, ◌==◌}
use Rattle.lines.specs.declared.kind.Kind.{Kind}
use Rattle.lines.specs.declared.kind.Kind.TheVariants.{Interest, Equity, Property, Spread, Concentration, Currency, Mortality, Longevity, Disability, Lapse, LifeExpense, Revision, LifeCatastrophe, HealthExpense, HealthClaims, Accumulation, PremiumReserve, Catastrophe, CounterpartyDefault, Operational}
use Rattle.lines.specs.declared.kind.Rule.{Rule}

abbrev pub number : Kind → ℕ
number Interest = 1
number Equity = 2
number Property = 3
number Spread = 4
number Concentration = 5
number Currency = 6
number Mortality = 7
number Longevity = 8
number Disability = 9
number Lapse = 10
number LifeExpense = 11
number Revision = 12
number LifeCatastrophe = 13
number HealthExpense = 14
number HealthClaims = 15
number Accumulation = 16
number PremiumReserve = 17
number Catastrophe = 18
number CounterpartyDefault = 20
number Operational = 25

abbrev pub kinds : List Kind
kinds =
    Interest ∷ Equity ∷ Property ∷ Spread ∷ Concentration ∷ Currency ∷
    Mortality ∷ Longevity ∷ Disability ∷ Lapse ∷ LifeExpense ∷ Revision ∷ LifeCatastrophe ∷
    HealthExpense ∷ HealthClaims ∷ Accumulation ∷
    PremiumReserve ∷ Catastrophe ∷ CounterpartyDefault ∷ Operational ∷ []

-- the kind with a number, among some
abbrev pub among : List Kind → ℕ → Option Kind
among [] n = None
among (k ∷ ks) n = cond (n == number k) (Some k) (among ks n)

unfoldable pub numbered : ℕ → Option Kind
numbered n = among kinds n

abbrev pub limits : ℕ → ℕ → ℕ → ℕ → Rule
limits c r f s = record { classes = c; rate = r; first = f; second = s }

-- how many classes, the greatest rate, first and second amount; 0 for a field that stays blank
abbrev pub rule : Kind → Rule
rule Interest = limits 4 0 4294967295 4294967295
rule Equity = limits 2 0 4294967295 0
rule Property = limits 0 0 4294967295 0
rule Spread = limits 8 5000 4294967295 0
rule Concentration = limits 0 0 16777215 0
rule Currency = limits 2 0 4294967295 0
rule Mortality = limits 2 0 4294967295 4294967295
rule Longevity = limits 2 0 4294967295 4294967295
rule Disability = limits 2 0 4294967295 4294967295
rule Lapse = limits 2 0 4294967295 4294967295
rule LifeExpense = limits 2 0 4294967295 4294967295
rule Revision = limits 2 0 4294967295 4294967295
rule LifeCatastrophe = limits 2 0 4294967295 4294967295
rule HealthExpense = limits 0 10000 4294967295 0
rule HealthClaims = limits 0 10000 4294967295 0
rule Accumulation = limits 0 10000 4294967295 0
rule PremiumReserve = limits 15 10000 4294967295 0
rule Catastrophe = limits 0 0 16777215 0
rule CounterpartyDefault = limits 0 10000 4294967295 0
rule Operational = limits 6 0 4294967295 0
