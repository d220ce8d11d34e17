-- The fields of a line that keeps its rules are within bounds, whatever its kind. Assumes nothing.
use Rattle.std.proofs.Common.{rules, ◌≡◌, ℕ, ◌*◌, ◌^◌, ◌<◌, ◌≤◌, Bool, true, false, not, ◌&&◌, ◌||◌, eqb, leb, ◌⊎◌, List, [], ◌∷◌, is_some, Some, None, Ok, Option, sym, refl, ap, ◌∙◌, inl, inr, arith}
use Rattle.std.specs.Option.{ok_or}
use Rattle.std.proofs.lemmas.Nat.{mul-le}
use Rattle.std.proofs.lemmas.Bool.{eq-eqb, ne_eqb, cases_Bool, cond-true, cond-false, cond_both, and_parts, or_cases, eqb-true}
use Rattle.std.proofs.lemmas.Bool.Decides.{nat_tests}
use denote.Enum.Bare.{sameb, same_true, same_false}
use Rattle.lines.specs.contracts.kind.Kind.{the_type}
use Rattle.lines.specs.declared.fields.Fields.{Fields}
use Rattle.lines.specs.declared.kind.Kind.{Kind}
use Rattle.lines.specs.declared.kind.Kind.TheVariants.{Interest, Equity, Property, Spread, Concentration, Currency, Mortality, Longevity, Disability, Lapse, LifeExpense, Revision, LifeCatastrophe, HealthExpense, HealthClaims, Accumulation, PremiumReserve, Catastrophe, CounterpartyDefault, Operational}
use Rattle.lines.specs.declared.kind.Rule.{Rule}
use Rattle.lines.specs.declared.kind.UnknownKind.{UnknownKind}
use Rattle.lines.specs.declared.line.Line.{Line}
use Rattle.lines.specs.Kinds.{number, kinds, among, numbered, rule}
use Rattle.lines.specs.Rules.{breaks, breaks_of}
use Rattle.lines.specs.Weights.{capped, factor, square, rated, span, weight}

abbrev every : (Kind → Bool) → List Kind → Bool
every p [] = true
every p (k ∷ ks) = p k && every p ks

-- a kind found by its number has that number, and what all kinds have
found : (p : Kind → Bool) (ks : List Kind) (n : ℕ) (k : Kind) → every p ks ≡ true → among ks n ≡ Some k → (p k ≡ true) × (n ≡ number k)
found p [] n k all h = let z : ◌≡◌ {A = ℕ} 0 1 = cc in absurd (omega arith)
found p (x ∷ ks) n k all h =
    elim (cases_Bool (eqb n (number x))) [
      | inl e ↦
          let s : Some x ≡ Some k = sym (cond-true _ _ _ e) ∙ h in
          let same : x ≡ k = cc in
          (ap p (sym same) ∙ (and_parts (p x) (every p ks) all).0, eqb-true n (number x) e ∙ ap number same)
      | inr e ↦ found p ks n k (and_parts (p x) (every p ks) all).1 (sym (cond-false _ _ _ e) ∙ h)
    ]

-- the kind with a number has that number
pub number_of : (n : ℕ) (k : Kind) (e : UnknownKind) → Ok k ≡ ok_or (numbered n) e → number k ≡ n
unfolding numbered
number_of n k e h = go (among kinds n) refl h
  where
    go : (o : Option Kind) → among kinds n ≡ o → Ok k ≡ ok_or o e → number k ≡ n
    go None same h = cc
    go (Some j) same h =
        let one : j ≡ k = cc in
        sym (found (λ _. true) kinds n k refl (same ∙ ap Some one)).1

-- every kind is found by its number
at_number : (k : Kind) → among kinds (number k) ≡ Some k
at_number Interest = refl
at_number Equity = refl
at_number Property = refl
at_number Spread = refl
at_number Concentration = refl
at_number Currency = refl
at_number Mortality = refl
at_number Longevity = refl
at_number Disability = refl
at_number Lapse = refl
at_number LifeExpense = refl
at_number Revision = refl
at_number LifeCatastrophe = refl
at_number HealthExpense = refl
at_number HealthClaims = refl
at_number Accumulation = refl
at_number PremiumReserve = refl
at_number Catastrophe = refl
at_number CounterpartyDefault = refl
at_number Operational = refl

one_kind : (j k : Kind) → number j ≡ number k → j ≡ k
one_kind j k h = let s : Some j ≡ Some k = sym (at_number j) ∙ ap (among kinds) h ∙ at_number k in cc

-- kinds are one where their numbers are
pub same_kind : (j k : Kind) (b : Bool) → b ≡ sameb the_type j k → b ≡ eqb (number j) (number k)
same_kind j k true h = sym (eq-eqb (number j) (number k) (ap number (same_true the_type (search rules) j k (sym h))))
same_kind j k false h = sym (ne_eqb (number j) (number k) (λ e. same_false the_type j k (sym h) (one_kind j k e)))

-- what the number and the rule of every kind keep to
abbrev moderate : ℕ → Rule → Bool
moderate n r =
    leb n 25 && (leb r.classes 15 && (leb r.rate 10000 && (leb r.first 4294967295 && (leb r.second 4294967295
    && (leb r.first 16777215 || not (square n))))))

all_moderate : every (λ k. moderate (number k) (rule k)) kinds ≡ true
all_moderate = refl

pub record Bounds (l : Fields) : Type 0 where
  pub kind : l.kind ≤ 25
  pub class : l.class ≤ 15
  pub rate : l.rate ≤ 10000
  pub first : l.first ≤ 4294967295
  pub second : l.second ≤ 4294967295
  pub square : (l.kind ≡ 5) ⊎ (l.kind ≡ 18) → l.first ≤ 16777215

square_under : (l : Fields) (r : Rule) (n : ℕ) → moderate n r ≡ true → is_some (breaks r l) ≡ false → (n ≡ 5) ⊎ (n ≡ 18) → l.first ≤ 16777215
square_under l r n m h (inl five) = grind (arith, nat_tests)
square_under l r n m h (inr eighteen) = grind (arith, nat_tests)

under : (l : Fields) (r : Rule) → moderate l.kind r ≡ true → is_some (breaks r l) ≡ false → Bounds l
under l r m h = record {
  kind = grind (arith, nat_tests);
  class = grind (arith, nat_tests);
  rate = grind (arith, nat_tests);
  first = grind (arith, nat_tests);
  second = grind (arith, nat_tests);
  square = square_under l r l.kind m h;
}

by : (l : Fields) (o : Option Kind) → numbered l.kind ≡ o → is_some (breaks_of o l) ≡ false → Bounds l
unfolding numbered
by l None e h = let z : ◌≡◌ {A = ℕ} 0 1 = cc in absurd (omega arith)
by l (Some k) e h =
    let p = found (λ x. moderate (number x) (rule x)) kinds l.kind k all_moderate e in
    under l (rule k) (ap (λ n. moderate n (rule k)) p.1 ∙ p.0) h

pub within : (l : Line) → Bounds l.fields
within l = by l.fields (numbered l.fields.kind) refl l.sound

pub kind_below : (l : Line) (f : Fields) → f ≡ l.fields → f.kind < 32
kind_below l f e = omega (arith, (within l).kind, ap (λ (x : Fields). x.kind) e)

pub class_below : (l : Line) (f : Fields) → f ≡ l.fields → f.class < 16
class_below l f e = omega (arith, (within l).class, ap (λ (x : Fields). x.class) e)

factor_small : (class : ℕ) → factor class ≤ 1120
factor_small class = grind (arith, nat_tests)

capped_le : (class duration : ℕ) → capped class duration ≤ duration
capped_le class duration = grind (arith, nat_tests)

squared : (kind : ℕ) → square kind ≡ true → (kind ≡ 5) ⊎ (kind ≡ 18)
squared kind h = elim (or_cases (eqb kind 5) (eqb kind 18) h) [ inl e ↦ inl (eqb-true kind 5 e) | inr e ↦ inr (eqb-true kind 18 e) ]

span_small : (l : Fields) → Bounds l → span l ≤ 16777215
span_small l b =
    cond_both (eqb l.kind 4) _ _ (λ n. n ≤ 16777215) (λ _. omega (arith, mul-le (capped l.class l.rate) (factor l.class) 10000 1120 (omega (arith, capped_le l.class l.rate)) (factor_small l.class)))
    (λ _. cond_both (square l.kind) _ _ (λ n. n ≤ 16777215) (λ e. b.square (squared l.kind e))
    (λ _. cond_both (rated l.kind) _ _ (λ n. n ≤ 16777215) (λ _. omega arith) (λ _. omega arith)))

-- the greatest weight
pub weight_small : (l : Line) → weight l.fields ≤ 2 ^ 56
unfolding weight
weight_small l =
    let b = within l in
    omega (arith, mul-le l.fields.first (span l.fields) 4294967295 16777215 b.first (span_small l.fields b))

-- the weight of a line whose amount is squared
pub square_weight : (l : Fields) → square l.kind ≡ true → weight l ≡ l.first * l.first
unfolding weight
square_weight l h = let s : span l ≡ l.first = grind (arith, nat_tests) in ap (λ (n : ℕ). l.first * n) s

pub square_small : (l : Line) → square l.fields.kind ≡ true → weight l.fields ≤ 2 ^ 48
square_small l h =
    let f = (within l).square (squared l.fields.kind h) in
    omega (arith, square_weight l.fields h, mul-le l.fields.first l.fields.first 16777215 16777215 f f)

-- the weight of a line of kind 25 is its amount
pub plain_small : (l : Line) → l.fields.kind ≡ 25 → weight l.fields ≤ 4294967295
unfolding weight
plain_small l h = let s : span l.fields ≡ 1 = grind (arith, nat_tests) in omega (arith, ap (λ (n : ℕ). l.fields.first * n) s, (within l).first)
