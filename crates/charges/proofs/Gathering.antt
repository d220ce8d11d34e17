-- Charges asked one after the other, and their bounds held. Assumes nothing.
use Rattle.std.proofs.Common.{◌≡◌, ℕ, ◌<◌, ◌≤◌, true, false, cond, List, [], ◌∷◌, ◌++◌, length, is_ok, Some, None, Ok, Err, Result, refl, ap, ◌∙◌, arith}
use Rattle.std.proofs.lemmas.Bool.{or_parts, or_left, or_right, or_from, ltb-false, le-ltb, lt-ltb}
use Rattle.std.proofs.lemmas.Bool.Decides.{nat_tests}
use Rattle.charges.specs.declared.pairs.Side.TheVariants.{Low, High}
use Rattle.charges.specs.declared.pairs.PairFault.{PairFault}
use Rattle.charges.specs.Held.{pair_fault, sides}
use Rattle.roots.specs.Answers.{told}
use Rattle.roots.proofs.Firsts.{found_within}
use Rattle.charges.specs.declared.charge.TooLargeAt.{TooLargeAt}
use Rattle.charges.specs.Meaning.{Meaning, Terms, Gathered, large, some_passes, downs, ups, depths, all_bounds, first_large, module_of}
use Rattle.charges.specs.Quotients.{passes}
use Rattle.charges.specs.Modules.{none_passes, some_large_passes}

no_fault : (ps : List (ℕ × ℕ)) (low high : ℕ) → length ps < 27 → low ≤ 16777215 → high ≤ 16777215 → pair_fault ps (low, high) ≡ None
no_fault ps low high a b c = grind (arith, nat_tests)

-- a pair that fits is held
pub pushed : (before after : List (ℕ × ℕ)) (low high : ℕ) (r : Result (Unit {0}) PairFault) → r ≡ told (pair_fault before (low, high)) → after ≡ cond (is_ok r) (before ++ ((low, high) ∷ [])) before → length before < 27 → low ≤ 16777215 → high ≤ 16777215 → after ≡ before ++ ((low, high) ∷ [])
pushed before after low high r answer is a b c =
    is ∙ ap (λ t. cond (is_ok t) (before ++ ((low, high) ∷ [])) before) (answer ∙ ap told (no_fault before low high a b c))

-- a charge that is not too large has small bounds
pub bounds_small : (m : Meaning) → Terms m → large m ≡ false → (m.D 1 ≤ 16777215) × (m.U 1 ≤ 16777215)
bounds_small m t h =
    let p = or_parts (some_passes m.inner) (passes (m.U 1)) h in
    let high = ltb-false 16777215 (m.U 1) p.1 in
    (omega (arith, t.order 1 (omega arith)), high)

-- the place that is told lies in the list
pub told_within : (ms : List Meaning) (before after : List (ℕ × ℕ)) (r : Result (Unit {0}) TooLargeAt) (e : TooLargeAt) → Gathered ms before after r → r ≡ Err e → e.0 ≤ length ms
told_within ms before after (Ok u) e h is = absurd cc
told_within ms before after (Err f) e h is = let same : f ≡ e = cc in rw (← same) (found_within large ms f.0 h).1

-- the lows and the highs of what charges answer
pub lows_of : (ms : List Meaning) → sides Low (all_bounds ms) ≡ downs ms 1
lows_of [] = refl
lows_of (m ∷ ms) = ap (λ l. m.D 1 ∷ l) (lows_of ms)

pub highs_of : (ms : List Meaning) → sides High (all_bounds ms) ≡ ups ms 1
highs_of [] = refl
highs_of (m ∷ ms) = ap (λ l. m.U 1 ∷ l) (highs_of ms)

-- a module is too large by a member, or by its own high
module _ (e : ℕ → ℕ → ℕ) (ms : List Meaning) where
  pub large_member : (i : ℕ) → first_large ms ≡ Some i → large (module_of e ms) ≡ true
  large_member i h = or_left (some_passes (depths ms)) (passes ((module_of e ms).U 1)) (some_large_passes ms i h)

  pub large_itself : (high : ℕ) → high ≡ (module_of e ms).U 1 → 16777215 < high → large (module_of e ms) ≡ true
  large_itself high is h = or_right (some_passes (depths ms)) (passes ((module_of e ms).U 1)) (lt-ltb 16777215 ((module_of e ms).U 1) (omega (arith, is)))

  pub not_large : (high : ℕ) → first_large ms ≡ None → high ≡ (module_of e ms).U 1 → high ≤ 16777215 → large (module_of e ms) ≡ false
  not_large high none is h = or_from (some_passes (depths ms)) (passes ((module_of e ms).U 1)) (none_passes ms none) (le-ltb 16777215 ((module_of e ms).U 1) (omega (arith, is)))
