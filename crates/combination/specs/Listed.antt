-- The numbers of a line, as they are kept. Assumes nothing.
use Rattle.std.specs.Prelude.{◌≡◌, ℕ, ◌-◌, ◌^◌, ◌<◌, ◌≤◌, List, length, Some, None, Ok, Err, Result}
use Rattle.arrayvec.specs.ArrayVec.{ArrayVec}
use Rattle.combination.specs.declared.numbers.LineFault.{LineFault}
use Rattle.combination.specs.declared.numbers.LineFault.TheVariants.{NoNumber, TooMany}
use Rattle.combination.specs.Reading.{numbers, first_wrong, at_most}

-- all words are numbers, at most 120, which are kept; or the first that is none is told, or how many they are
abbrev pub NumbersRead : List (List ℕ) → Result (ArrayVec ℕ) LineFault → Type 0
NumbersRead ws (Ok ns) = (first_wrong ws ≡ None) × (length ws ≤ 120) × (ns.items ≡ at_most (2 ^ 32 - 1) (numbers ws))
NumbersRead ws (Err (NoNumber i)) = first_wrong ws ≡ Some i
NumbersRead ws (Err (TooMany n)) = (first_wrong ws ≡ None) × (n ≡ length ws) × (120 < n)
