-- Figures that were worked out keep the laws. Assumes nothing.
use Rattle.std.proofs.Common.{◌≡◌, ℕ, zero, suc, ◌-◌, List, [], ◌∷◌, get_or, None, sym, refl, ap, ◌∙◌, subst, mul-one, arith}
use Rattle.roots.specs.Form.{at, added, Sound}
use Rattle.roots.proofs.Laws.{lawful}
use Rattle.charges.specs.declared.beside.Beside.{Beside}
use Rattle.charges.specs.Formula.{limited, figures}
use Rattle.charges.specs.Held.{highs}
use Rattle.charges.specs.Meaning.{Meaning, Terms, AllTerms, downs, ups, bounds, all_bounds, first_large}
use Rattle.charges.specs.Worked.{nothing, Between, WorkedOut}
use Rattle.charges.proofs.FormulaTerms.{figures_terms}
use Rattle.charges.proofs.Lists.{all_at}

-- a charge between its low and its high in every unit
pub between : (m : Meaning) → Terms m → Between m (m.D 1) (m.U 1)
between m t =
    record {
      low_is = refl;
      high_is = refl;
      finer = λ k h. (rw mul-one at (t.finer_down k 1 h (omega arith)), t.order k h, rw mul-one at (t.finer_up k 1 h (omega arith)));
      narrow = t.narrow;
    }

nothing_terms : Terms nothing
nothing_terms =
    record { order = λ k _. omega arith; finer_down = λ j k _ _. omega arith; finer_up = λ j k _ _. omega arith; narrow = omega arith; covers = omega arith }

-- the pair at a place, of a list of charges
bounds_at : (ms : List Meaning) (i : ℕ) → get_or (all_bounds ms) i (0, 0) ≡ bounds (get_or ms i nothing)
bounds_at ms i = go ms i
  where
    go : (ms : List Meaning) (i : ℕ) → get_or (all_bounds ms) i (0, 0) ≡ bounds (get_or ms i nothing)
    go [] i = refl
    go (m ∷ ms) zero = refl
    go (m ∷ ms) (suc i) = go ms i

highs_all : (ms : List Meaning) → highs (all_bounds ms) ≡ ups ms 1
highs_all [] = refl
highs_all (m ∷ ms) = ap (λ l. m.U 1 ∷ l) (highs_all ms)

at_downs : (ms : List Meaning) (i : ℕ) → (get_or (all_bounds ms) i (0, 0)).0 ≡ at (downs ms 1) i
at_downs [] i = refl
at_downs (m ∷ ms) zero = refl
at_downs (m ∷ ms) (suc i) = at_downs ms i

pub worked : (e : ℕ → ℕ → ℕ) → Sound e → (t : Beside) (shown members : List Meaning) → AllTerms shown → AllTerms members → (ps : List (ℕ × ℕ)) → (first_large (limited e t shown members) ≡ None) × (ps ≡ all_bounds (figures e t shown members)) → WorkedOut e t shown members ps
worked e s t shown members g h ps done =
    let ms = figures e t shown members in
    let terms = figures_terms e s t shown members g h in
    record {
      none_large = done.0;
      value = done.1;
      between = λ f _ _.
          let m = get_or ms (f - 1) nothing in
          let pair : get_or ps (f - 1) (0, 0) ≡ bounds (get_or ms (f - 1) nothing) = ap (λ l. get_or l (f - 1) (0, 0)) done.1 ∙ bounds_at ms (f - 1) in
          subst (λ (p : ℕ × ℕ). Between m p.0 p.1) (sym pair) (between m (all_at ms terms nothing nothing_terms (f - 1)));
      above_each = λ i. omega (arith, at_downs members i, (lawful e s (downs members 1)).covers i);
      below_sum = omega (arith, (lawful e s (ups members 1)).diversifies, ap added (highs_all members));
    }
