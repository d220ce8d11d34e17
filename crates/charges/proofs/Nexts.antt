-- Lists of charges gathered one behind the other. Assumes nothing.
use Rattle.std.proofs.Common.{◌≡◌, ℕ, ◌+◌, List, ◌++◌, length, Some, None, Option, sym, refl, ap, ◌∙◌, append_assoc, arith, length-append}
use Rattle.std.specs.Option.{option_map}
use Rattle.charges.specs.Meaning.{Meaning, all_bounds, first_large}
use Rattle.charges.proofs.Lists.{none_behind, some_behind, some_before, bounds-++, bounds_length}

mapped_some : (g : ℕ → ℕ) (o : Option ℕ) (v : ℕ) → option_map g o ≡ Some v → (i : ℕ) × (o ≡ Some i) × (g i ≡ v)
mapped_some g None v h = absurd (let z : ◌≡◌ {A = ℕ} 0 1 = cc in let y : ⊥ = omega arith in y)
mapped_some g (Some i) v h = (i, refl, cc)

module _ (xs ys : List Meaning) (a : List (ℕ × ℕ)) where
  -- a charge of the first list is too large
  pub early : (f : ℕ) → option_map (λ p. length a + p) (first_large xs) ≡ Some f → option_map (λ p. length a + p) (first_large (xs ++ ys)) ≡ Some f
  early f h =
      let s = mapped_some (λ p. length a + p) (first_large xs) f h in
      ap (option_map (λ p. length a + p)) (some_before xs ys s.0 s.1) ∙ ap Some s.2

  module _ (b : List (ℕ × ℕ)) (first : (first_large xs ≡ None) × (b ≡ a ++ all_bounds xs)) where
    pub both : (c : List (ℕ × ℕ)) → (first_large ys ≡ None) × (c ≡ b ++ all_bounds ys) → (first_large (xs ++ ys) ≡ None) × (c ≡ a ++ all_bounds (xs ++ ys))
    both c second = (
      none_behind xs ys first.0 second.0,
      second.1 ∙ ap (λ l. l ++ all_bounds ys) first.1 ∙ append_assoc a (all_bounds xs) (all_bounds ys) ∙ ap (λ l. a ++ l) (sym (bounds-++ xs ys)),
    )

    -- one of the second is
    pub late : (f : ℕ) → option_map (λ p. length b + p) (first_large ys) ≡ Some f → option_map (λ p. length a + p) (first_large (xs ++ ys)) ≡ Some f
    late f h =
        let s = mapped_some (λ p. length b + p) (first_large ys) f h in
        let same : length a + (length xs + s.0) ≡ f = omega (arith, s.2, ap length first.1, length-append a (all_bounds xs), bounds_length xs) in
        ap (option_map (λ p. length a + p)) (some_behind xs ys s.0 first.0 s.1) ∙ ap Some same

pub longer : (xs : List Meaning) (a b : List (ℕ × ℕ)) (n : ℕ) → b ≡ a ++ all_bounds xs → length xs ≡ n → length b ≡ length a + n
longer xs a b n e h = omega (arith, ap length e, length-append a (all_bounds xs), bounds_length xs)
