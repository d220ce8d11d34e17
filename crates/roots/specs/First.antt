-- The first element of a list that passes a test. Assumes nothing.
use Rattle.std.specs.Prelude.{ℕ, suc, Bool, cond, List, [], ◌∷◌, Some, None, Option, nat_lt}
use Rattle.std.specs.Option.{option_map}

-- its position, from 1
abbrev pub first : {X : Type 0} → (X → Bool) → List X → Option ℕ
first p [] = None
first p (x ∷ xs) = cond (p x) (Some 1) (option_map suc (first p xs))

-- the position of the first number above a limit
abbrev pub first_above : ℕ → List ℕ → Option ℕ
first_above limit xs = first (nat_lt limit) xs
