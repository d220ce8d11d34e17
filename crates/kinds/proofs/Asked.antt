-- The lines of business asked one after the other. Assumes nothing.
use Rattle.std.proofs.Common.{◌≡◌, ℕ, ◌+◌, ◌<◌, ◌≤◌, true, false, cond, List, [], ◌∷◌, ◌++◌, length, get_or, take, is_ok, Some, None, Result, sym, ap, ◌∙◌, append_assoc, arith, length-append}
use Rattle.std.proofs.lemmas.List.{length-map, length-take-le, map_more}
use Rattle.roots.proofs.Firsts.{none_more, found_at}
use Rattle.charges.specs.declared.pairs.PairFault.{PairFault}
use Rattle.charges.specs.Held.{pair_fault}
use Rattle.roots.specs.Answers.{told}
use Rattle.charges.specs.Meaning.{Meaning, Terms, large, bounds, all_bounds, first_large}
use Rattle.charges.proofs.Gathering.{pushed, bounds_small}

-- so many charges of a list have been asked, all small, and their bounds are held behind those before
abbrev pub Asked : List Meaning → List (ℕ × ℕ) → ℕ → List (ℕ × ℕ) → Type 0
Asked ms before i held = (first_large (take i ms) ≡ None) × (held ≡ before ++ all_bounds (take i ms))

module _ (ms : List Meaning) (before : List (ℕ × ℕ)) (i : ℕ) (here : i < length ms) (m : Meaning) (is : get_or ms i m ≡ m) where
  asked_length : (old : List (ℕ × ℕ)) → Asked ms before i old → length old ≡ length before + i
  asked_length old a = ap length a.1 ∙ length-append before (all_bounds (take i ms)) ∙ ap (λ n. length before + n) (length-map (take i ms) bounds ∙ length-take-le i ms (omega arith))

  -- one more
  pub asked_more : (old new : List (ℕ × ℕ)) (pair : ℕ × ℕ) (r : Result (Unit {0}) PairFault) → Terms m → large m ≡ false → pair ≡ bounds m → length before + length ms ≤ 27
      → Asked ms before i old → r ≡ told (pair_fault old pair) → new ≡ cond (is_ok r) (old ++ (pair ∷ [])) old → Asked ms before (i + 1) new
  asked_more old new pair r terms small is_pair room a answer after =
      let s = bounds_small m terms small in
      let low = ap (λ (p : ℕ × ℕ). p.0) is_pair in
      let high = ap (λ (p : ℕ × ℕ). p.1) is_pair in
      let grown = pushed old new pair.0 pair.1 r answer after (omega (arith, asked_length old a)) (omega (arith, s.0, low)) (omega (arith, s.1, high)) in
      let more : all_bounds (take (i + 1) ms) ≡ all_bounds (take i ms) ++ (bounds (get_or ms i m) ∷ []) = map_more bounds ms i m here in (
        none_more large m ms i here a.0 (ap large is ∙ small),
        grown ∙ ap (λ l. l ++ (pair ∷ [])) a.1 ∙ append_assoc before (all_bounds (take i ms)) (pair ∷ [])
            ∙ ap (λ l. before ++ l) (ap (λ (p : ℕ × ℕ). all_bounds (take i ms) ++ (p ∷ [])) (is_pair ∙ ap bounds (sym is)) ∙ sym more),
      )

  -- the first that is too large
  pub asked_large : (old : List (ℕ × ℕ)) → Asked ms before i old → large m ≡ true → first_large ms ≡ Some (i + 1)
  asked_large old a h = found_at large m ms i here a.0 (ap large is ∙ h)
