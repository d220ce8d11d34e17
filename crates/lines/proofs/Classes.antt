-- The totals of a kind's classes make the total of the kind. Assumes nothing.
use Rattle.std.proofs.Common.{◌≡◌, ℕ, zero, suc, ◌+◌, ◌*◌, ◌^◌, ◌≤◌, true, cond, ◌&&◌, eqb, ltb, List, [], ◌∷◌, length, refl, ap, ◌∙◌, suc-mul, arith}
use Rattle.std.proofs.lemmas.List.Sums.{sum_by-cons}
use Rattle.std.proofs.lemmas.Bool.{cond_both, eqb-true}
use Rattle.std.proofs.lemmas.Bool.Decides.{nat_tests}
use Rattle.roots.specs.Form.{sum}
use Rattle.roots.proofs.Sums.{sum_eq, sum_add}
use Rattle.lines.specs.declared.fields.Fields.{Fields}
use Rattle.lines.specs.declared.line.Line.{Line}
use Rattle.lines.specs.Held.{plain}
use Rattle.lines.specs.Totals.{part, over, of_kind, whole_of}
use Rattle.lines.specs.Weights.{weight, square}
use Rattle.lines.proofs.Bounds.{within, square_small}

module _ (f : Fields → ℕ) (kind : ℕ) where
  -- a line's parts in the classes below n
  parts : (n : ℕ) (l : Fields) → sum n (λ c. part f kind c l) ≡ cond (eqb l.kind kind && ltb l.class n) (f l) 0
  parts zero l = let w = f l in grind (arith, nat_tests)
  parts (suc n) l = let more = parts n l in let w = f l in grind (arith, nat_tests)

  all_parts : (l : Line) → sum 16 (λ c. part f kind c l.fields) ≡ cond (eqb l.fields.kind kind) (f l.fields) 0
  all_parts l = let b = (within l).class in parts 16 l.fields ∙ (let w = f l.fields in grind (arith, nat_tests))

  none : (n : ℕ) → sum n (λ c. over f kind c []) ≡ 0
  none zero = refl
  none (suc n) = omega (arith, none n)

  one_more : (n : ℕ) (l : Fields) (ls : List Fields) → sum n (λ c. over f kind c (l ∷ ls)) ≡ sum n (λ c. part f kind c l) + sum n (λ c. over f kind c ls)
  one_more n l ls =
      sum_eq n _ (λ c. part f kind c l + over f kind c ls) (λ c. sum_by-cons (part f kind c) l ls)
      ∙ sum_add n (λ c. part f kind c l) (λ c. over f kind c ls)

  -- all classes of a kind
  pub classes_whole : (ls : List Line) → sum 16 (λ c. over f kind c (plain ls)) ≡ of_kind f kind (plain ls)
  classes_whole [] = none 16
  classes_whole (l ∷ ls) =
      omega (arith, one_more 16 l.fields (plain ls), all_parts l, classes_whole ls, sum_by-cons (λ l. cond (eqb l.kind kind) (f l) 0) l.fields (plain ls))

  module _ (m : ℕ) (most : (l : Line) → l.fields.kind ≡ kind → f l.fields ≤ m) where
    -- what each line of the kind adds is at most m
    pub of_kind_le : (ls : List Line) → of_kind f kind (plain ls) ≤ length ls * m
    of_kind_le [] = omega arith
    of_kind_le (l ∷ ls) =
        let own : cond (eqb l.fields.kind kind) (f l.fields) 0 ≤ m = cond_both (eqb l.fields.kind kind) _ _ (λ n. n ≤ m) (λ e. most l (eqb-true l.fields.kind kind e)) (λ _. omega arith) in
        omega (arith, own, of_kind_le ls, sum_by-cons (λ l. cond (eqb l.kind kind) (f l) 0) l.fields (plain ls), suc-mul (length ls) m)

    pub classes_le : (ls : List Line) → sum 16 (λ c. over f kind c (plain ls)) ≤ length ls * m
    classes_le ls = omega (arith, classes_whole ls, of_kind_le ls)

-- the weights of a kind whose amounts are squared
pub squares_le : (kind : ℕ) (ls : List Line) → square kind ≡ true → whole_of kind (plain ls) ≤ length ls * 2 ^ 48
squares_le kind ls h = of_kind_le weight kind (2 ^ 48) (λ l e. square_small l (ap square e ∙ h)) ls
