-- Lists of charges, one behind the other. Assumes nothing.
use Rattle.std.proofs.Common.{◌≡◌, ℕ, zero, suc, ◌+◌, List, [], ◌∷◌, ◌++◌, length, get_or, Some, None, ap, ◌∙◌}
use Rattle.std.proofs.lemmas.List.{map-append, length-map}
use Rattle.std.specs.Option.{option_map}
use Rattle.roots.proofs.Firsts.{first_before, first_behind}
use Rattle.charges.specs.Meaning.{Meaning, Terms, AllTerms, large, all_bounds, first_large}

pub all-++ : (xs ys : List Meaning) → AllTerms xs → AllTerms ys → AllTerms (xs ++ ys)
all-++ [] ys p q = q
all-++ (x ∷ xs) ys p q = (p.0, all-++ xs ys p.1 q)

pub all_at : (ms : List Meaning) → AllTerms ms → (d : Meaning) → Terms d → (i : ℕ) → Terms (get_or ms i d)
all_at [] t d h i = h
all_at (m ∷ ms) t d h zero = t.0
all_at (m ∷ ms) t d h (suc i) = all_at ms t.1 d h i

-- charges behind others: none too large, and their bounds behind
pub none_behind : (xs ys : List Meaning) → first_large xs ≡ None → first_large ys ≡ None → first_large (xs ++ ys) ≡ None
none_behind xs ys p q = first_behind large xs ys p ∙ ap (option_map (λ i. length xs + i)) q

pub some_behind : (xs ys : List Meaning) (i : ℕ) → first_large xs ≡ None → first_large ys ≡ Some i → first_large (xs ++ ys) ≡ Some (length xs + i)
some_behind xs ys i p q = first_behind large xs ys p ∙ ap (option_map (λ i. length xs + i)) q

pub some_before : (xs ys : List Meaning) (i : ℕ) → first_large xs ≡ Some i → first_large (xs ++ ys) ≡ Some i
some_before xs ys i h = first_before large xs ys i h

pub bounds-++ : (xs ys : List Meaning) → all_bounds (xs ++ ys) ≡ all_bounds xs ++ all_bounds ys
bounds-++ xs ys = map-append _ xs ys

pub bounds_length : (ms : List Meaning) → length (all_bounds ms) ≡ length ms
bounds_length ms = length-map ms _
