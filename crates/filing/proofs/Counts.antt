-- How many lines of a kind stand, and with one less. Assumes nothing.
use Rattle.std.proofs.Common.{◌≡◌, ℕ, zero, suc, ◌≤◌, cond, eqb, List, [], ◌∷◌, ◌++◌, take, drop, sum_by, count_by, sym, refl, ap, ◌∙◌, ap₂, arith}
use mathlib.Core.List.{map-append}
use Rattle.std.proofs.lemmas.List.{take-map, drop-map}
use Rattle.std.proofs.lemmas.List.Sums.{sum_by-cons}
use Rattle.std.specs.List.{remove}
use Rattle.lines.specs.declared.fields.Fields.{Fields}
use Rattle.lines.specs.declared.line.Line.{Line}
use Rattle.lines.specs.Held.{plain}
use Rattle.lines.specs.Totals.{kind_count}

-- 1 for a line of the kind
abbrev pub one : ℕ → Fields → ℕ
one kind l = cond (eqb l.kind kind) 1 0

-- lines counted one by one
pub counted : (kind : ℕ) (ls : List Line) → count_by (λ (l : Line). eqb l.fields.kind kind) ls ≡ kind_count kind (plain ls)
counted kind [] = refl
counted kind (l ∷ ls) = omega (arith, sum_by-cons (λ (l : Line). one kind l.fields) l ls, sum_by-cons (one kind) l.fields (plain ls), counted kind ls)

sum_removed : {X : Type 0} (f : X → ℕ) (xs : List X) (i : ℕ) → sum_by f (remove xs i) ≤ sum_by f xs
sum_removed f [] zero = omega arith
sum_removed f [] (suc i) = omega arith
sum_removed f (x ∷ xs) zero = omega (arith, sum_by-cons f x xs)
sum_removed f (x ∷ xs) (suc i) = omega (arith, sum_by-cons f x xs, sum_by-cons f x (remove xs i), sum_removed f xs i)

pub plain_removed : (ls : List Line) (i : ℕ) → plain (remove ls i) ≡ remove (plain ls) i
plain_removed ls i =
    map-append (λ (l : Line). l.fields) (take i ls) (drop (suc i) ls)
    ∙ ap₂ (λ (a b : List Fields). a ++ b) (sym (take-map (λ (l : Line). l.fields) i ls)) (sym (drop-map (λ (l : Line). l.fields) (suc i) ls))

pub count_removed : (kind : ℕ) (ls : List Line) (i : ℕ) → kind_count kind (plain (remove ls i)) ≤ kind_count kind (plain ls)
count_removed kind ls i = omega (arith, ap (kind_count kind) (plain_removed ls i), sum_removed (one kind) (plain ls) i)
