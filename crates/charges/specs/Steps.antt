-- Figures gathered one after the other. Assumes nothing.
use Rattle.std.specs.Prelude.{◌≡◌, ℕ, ◌+◌, Bool, true, false, ◌&&◌, List, [], ◌∷◌, ◌++◌, length, Some, None, Ok, Err, Result, nat_le}
use Rattle.std.specs.Option.{option_map}
use Rattle.charges.specs.declared.beside.Beside.{Beside}
use Rattle.charges.specs.declared.charge.TooLargeAt.{TooLargeAt}
use Rattle.charges.specs.Formula.{limited, figures}
use Rattle.charges.specs.Meaning.{Meaning, AllTerms, all_bounds, first_large}

-- charges behind those held: all of their bounds, or the number of the first figure that is too large
abbrev pub Next : List Meaning → List (ℕ × ℕ) → List (ℕ × ℕ) → Result (Unit {0}) TooLargeAt → Type 0
Next ms before after (Ok u) = (first_large ms ≡ None) × (after ≡ before ++ all_bounds ms)
Next ms before after (Err f) = option_map (λ p. length before + p) (first_large ms) ≡ Some f.0

-- neither of the two passes the limit
abbrev pub within_limit : ℕ × ℕ → Bool
within_limit p = nat_le p.0 16777215 && nat_le p.1 16777215

-- one pair behind those held
abbrev pub Pushed : ℕ × ℕ → List (ℕ × ℕ) → List (ℕ × ℕ) → Result (Unit {0}) TooLargeAt → Type 0
Pushed p before after (Ok u) = (within_limit p ≡ true) × (after ≡ before ++ (p ∷ []))
Pushed p before after (Err f) = (within_limit p ≡ false) × (f.0 ≡ length before + 1)

-- all figures, or the lowest that is too large
abbrev pub Ended : (ℕ → ℕ → ℕ) → Beside → List Meaning → List Meaning → Result (List (ℕ × ℕ)) TooLargeAt → Type 0
Ended e t shown members (Ok ps) = (first_large (limited e t shown members) ≡ None) × (ps ≡ all_bounds (figures e t shown members))
Ended e t shown members (Err f) = first_large (limited e t shown members) ≡ Some f.0

-- the last figures behind those held, whatever charges these come from
abbrev pub Finished : (ℕ → ℕ → ℕ) → Beside → List (ℕ × ℕ) → Result (List (ℕ × ℕ)) TooLargeAt → Type 0
Finished e t held r = (shown members : List Meaning) → AllTerms members → length shown ≡ 18 → first_large (shown ++ members) ≡ None → held ≡ all_bounds (shown ++ members) → Ended e t shown members r
