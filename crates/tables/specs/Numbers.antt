-- The tables and their numbers. Assumes nothing.
use Rattle.std.specs.Prelude.{ℕ, cond, Some, None, Option, ◌==◌}
use Rattle.tables.specs.declared.which.Which.{Which}
use Rattle.tables.specs.declared.which.Which.TheVariants.{Basic, Market, Equity, Life, Health, NonLife, Business}

abbrev pub number : Which → ℕ
number Basic = 1
number Market = 2
number Equity = 3
number Life = 4
number Health = 5
number NonLife = 6
number Business = 7

abbrev pub numbered : ℕ → Option Which
numbered n =
    cond (n == 1) (Some Basic)
    (cond (n == 2) (Some Market)
    (cond (n == 3) (Some Equity)
    (cond (n == 4) (Some Life)
    (cond (n == 5) (Some Health)
    (cond (n == 6) (Some NonLife)
    (cond (n == 7) (Some Business) None))))))
