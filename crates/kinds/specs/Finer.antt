-- Totals of lines in a finer unit. Assumes nothing.
use Rattle.std.specs.Prelude.{◌≡◌, ℕ, ◌+◌, ◌-◌, ◌*◌, Bool, true, false, cond, ◌&&◌, List, [], ◌∷◌, sum_by, ◌==◌, refl}
use Rattle.std.proofs.Common.{ap, sym, ◌∙◌, arith, mul_assoc, mul-add}
use Rattle.std.proofs.Math.Nat.{mul-sub}
use Rattle.std.proofs.lemmas.List.Sums.{sum_by-cons}
use Rattle.std.proofs.lemmas.Bool.{cond-false, and_parts, eqb-true}
use Rattle.std.proofs.lemmas.Bool.Decides.{nat_tests}
use Rattle.roots.specs.Form.{sum}
use Rattle.roots.proofs.Sums.{sum_eq, sum_mul}
use Rattle.lines.specs.declared.fields.Fields.{Fields}
use Rattle.lines.specs.Totals.{part, total, afters}
use Rattle.lines.specs.Weights.{capped, factor, square, span, weight}
use Rattle.kinds.specs.Exact.{finer, in_unit, fall}

-- a number of lines that grows with their amounts
abbrev pub Linear : (List Fields → ℕ) → Type 0
Linear f = (k : ℕ) (ls : List Fields) → f (in_unit k ls) ≡ k * f ls

sum_finer : (f : Fields → ℕ) (n k : ℕ) → ((l : Fields) → f (finer k l) ≡ n * f l) → (ls : List Fields) → sum_by f (in_unit k ls) ≡ n * sum_by f ls
sum_finer f n k h [] = omega arith
sum_finer f n k h (l ∷ ls) =
    omega (arith, sum_by-cons f (finer k l) (in_unit k ls), ap (λ (m : ℕ). n * m) (sum_by-cons f l ls), h l, sum_finer f n k h ls, mul-add n (f l) (sum_by f ls))

kept : (b : Bool) (x y n : ℕ) → (b ≡ true → x ≡ n * y) → cond b x 0 ≡ n * cond b y 0
kept true x y n h = h refl
kept false x y n h = omega arith

span_finer : (k : ℕ) (l : Fields) → square l.kind ≡ false → span (finer k l) ≡ span l
span_finer k l h =
    ap (λ (n : ℕ). cond (l.kind == 4) (capped l.class l.rate * factor l.class) n)
    (cond-false (square l.kind) (k * l.first) _ h ∙ sym (cond-false (square l.kind) l.first _ h))

weight_finer : (k : ℕ) (l : Fields) → square l.kind ≡ false → weight (finer k l) ≡ k * weight l
unfolding weight
weight_finer k l h = ap (λ (n : ℕ). k * l.first * n) (span_finer k l h) ∙ mul_assoc k l.first (span l)

of_class : (kind class : ℕ) (l : Fields) → (l.kind == kind && l.class == class) ≡ true → l.kind ≡ kind
of_class kind class l e = eqb-true l.kind kind (and_parts (l.kind == kind) (l.class == class) e).0

pub total_linear : (kind class : ℕ) → square kind ≡ false → Linear (total kind class)
total_linear kind class h k ls =
    sum_finer (part weight kind class) k k
    (λ l. kept (l.kind == kind && l.class == class) (weight (finer k l)) (weight l) k (λ e. weight_finer k l (ap square (of_class kind class l e) ∙ h))) ls

pub afters_linear : (kind class : ℕ) → Linear (afters kind class)
afters_linear kind class k ls =
    sum_finer (part (λ l. l.second) kind class) k k
    (λ l. kept (l.kind == kind && l.class == class) (k * l.second) l.second k (λ e. refl)) ls

pub sum_linear : (n : ℕ) (f : ℕ → List Fields → ℕ) → ((c : ℕ) → Linear (f c)) → Linear (λ ls. sum n (λ c. f c ls))
sum_linear n f h k ls = sum_eq n _ (λ c. k * f c ls) (λ c. h c k ls) ∙ sum_mul n k (λ c. f c ls)

pub fall_linear : (kind asset liability : ℕ) → square kind ≡ false → Linear (fall kind asset liability)
fall_linear kind asset liability h k ls =
    let a = total_linear kind asset h k ls in
    let b = afters_linear kind liability k ls in
    let c = afters_linear kind asset k ls in
    let d = total_linear kind liability h k ls in
    omega (arith, mul-sub k (total kind asset ls + afters kind liability ls) (afters kind asset ls + total kind liability ls), mul-add k (total kind asset ls) (afters kind liability ls), mul-add k (afters kind asset ls) (total kind liability ls))

pub distance_linear : (f g : List Fields → ℕ) → Linear f → Linear g → Linear (λ ls. (f ls - g ls) + (g ls - f ls))
distance_linear f g p q k ls =
    omega (arith, p k ls, q k ls, mul-sub k (f ls) (g ls), mul-sub k (g ls) (f ls), mul-add k (f ls - g ls) (g ls - f ls))

-- the total of squares grows with the square
square_span : (l : Fields) → square l.kind ≡ true → span l ≡ l.first
square_span l h = grind (arith, nat_tests)

square_finer : (k : ℕ) (l : Fields) → square l.kind ≡ true → weight (finer k l) ≡ k * k * weight l
unfolding weight
square_finer k l h =
    ap (λ n. k * l.first * n) (square_span (finer k l) h) ∙ (let e : k * l.first * (k * l.first) ≡ k * k * (l.first * l.first) = omega arith in e) ∙ ap (λ n. k * k * (l.first * n)) (sym (square_span l h))

pub squares_finer : (kind class k : ℕ) (ls : List Fields) → square kind ≡ true → total kind class (in_unit k ls) ≡ k * k * total kind class ls
squares_finer kind class k ls h =
    sum_finer (part weight kind class) (k * k) k
    (λ l. kept (l.kind == kind && l.class == class) (weight (finer k l)) (weight l) (k * k) (λ e. square_finer k l (ap square (of_class kind class l e) ∙ h))) ls
