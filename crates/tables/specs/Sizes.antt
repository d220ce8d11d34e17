-- How many members the tables have. Assumes nothing.
use Rattle.std.specs.Prelude.{ℕ, ◌-◌, cond, ◌&&◌, List, [], ◌∷◌, Some, None, Option, nat_le, slice_index}

-- in the order of their numbers
abbrev pub sizes : List ℕ
sizes = 5 ∷ 6 ∷ 2 ∷ 7 ∷ 3 ∷ 2 ∷ 15 ∷ []

-- of the table with a number
abbrev pub size : ℕ → ℕ
size table = slice_index sizes (table - 1)

-- the same, if there is one
abbrev pub members : ℕ → Option ℕ
members table = cond (nat_le 1 table && nat_le table 7) (Some (size table)) None
