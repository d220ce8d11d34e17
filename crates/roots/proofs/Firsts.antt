-- The first element that passes a test, one place further. Assumes nothing.
use Rattle.std.proofs.Common.{◌≡◌, ℕ, zero, suc, ◌+◌, ◌<◌, ◌≤◌, Bool, true, false, cond, not, ltb, ◌⊎◌, List, [], ◌∷◌, ◌++◌, length, get_or, take, Some, None, Option, sym, refl, ap, inl, inr, ⊎_elim, add-one, arith}
use Rattle.std.proofs.lemmas.Bool.{ltb-false}
use Rattle.std.specs.Option.{option_map, MatchOption}
use Rattle.std.proofs.lemmas.Bool.Decides.{nat_tests}
use Rattle.std.specs.List.{position_or_len}
use Rattle.roots.specs.First.{first, first_above}

-- nothing passes in a list: not its first element, and none of the rest
pub none_split : (b : Bool) (o : Option ℕ) → cond b (Some 1) (option_map suc o) ≡ None → (b ≡ false) × (o ≡ None)
none_split true o h = grind arith
none_split false None h = (refl, refl)
none_split false (Some x) h = grind arith

module _ {X : Type 0} (p : X → Bool) (d : X) where
  pub none_more : (xs : List X) (i : ℕ) → i < length xs → first p (take i xs) ≡ None → p (get_or xs i d) ≡ false → first p (take (i + 1) xs) ≡ None
  none_more xs i b h e = rw add-one (go xs i b h e)
    where
      go : (xs : List X) (i : ℕ) → i < length xs → first p (take i xs) ≡ None → p (get_or xs i d) ≡ false → first p (take (suc i) xs) ≡ None
      go [] i b h e = refl
      go (x ∷ xs) zero b h e = rw e
      go (x ∷ xs) (suc i) b h e =
          let s = none_split (p x) (first p (take i xs)) h in
          rw (s.0, go xs i (omega arith) s.1 e)

  pub found_at : (xs : List X) (i : ℕ) → i < length xs → first p (take i xs) ≡ None → p (get_or xs i d) ≡ true → first p xs ≡ Some (i + 1)
  found_at [] i b h e = grind arith
  found_at (x ∷ xs) zero b h e = rw e
  found_at (x ∷ xs) (suc i) b h e =
      let s = none_split (p x) (first p (take i xs)) h in
      let more : suc (i + 1) ≡ suc i + 1 = omega arith in
      rw (s.0, found_at xs i (omega arith) s.1 e, more)

first_by : {X : Type 0} (p : X → Bool) (xs : List X) → first p xs ≡ cond (ltb (position_or_len p xs) (length xs)) (Some (position_or_len p xs + 1)) None
first_by p [] = refl
first_by p (x ∷ xs) = let e = first_by p xs in step (p x) (first p xs) (position_or_len p xs) (length xs) e
  where
    step : (t : Bool) (o : Option ℕ) (i n : ℕ) → o ≡ cond (ltb i n) (Some (i + 1)) None → cond t (Some 1) (option_map suc o) ≡ cond (ltb (cond (not t) (1 + i) 0) (suc n)) (Some (cond (not t) (1 + i) 0 + 1)) None
    step true o i n e = grind (arith, nat_tests)
    step false o i n e = go (ltb i n) refl
      where
        go : (b : Bool) → ltb i n ≡ b → option_map suc o ≡ cond (ltb (1 + i) (suc n)) (Some (1 + i + 1)) None
        go true t = grind (arith, nat_tests, e)
        go false t = grind (arith, nat_tests, e)

-- by what `position` answers, one place further
pub first_position : {X : Type 0} (p : X → Bool) (xs : List X) (r m : Option ℕ) → r ≡ cond (ltb (position_or_len p xs) (length xs)) (Some (position_or_len p xs)) None → MatchOption r (m ≡ None) (λ i. m ≡ Some (i + 1)) → m ≡ first p xs
first_position p xs r m e h = rw (first_by p xs) (go (ltb (position_or_len p xs) (length xs)) (position_or_len p xs) r e h)
  where
    go : (b : Bool) (n : ℕ) (r : Option ℕ) → r ≡ cond b (Some n) None → MatchOption r (m ≡ None) (λ i. m ≡ Some (i + 1)) → m ≡ cond b (Some (n + 1)) None
    go b n r e h = grind arith

pub none_above : (limit : ℕ) (xs : List ℕ) → first_above limit xs ≡ None → (i : ℕ) → get_or xs i 0 ≤ limit
none_above limit [] h i = omega arith
none_above limit (x ∷ xs) h zero = let s = none_split (ltb limit x) (first_above limit xs) h in omega (arith, ltb-false limit x s.0)
none_above limit (x ∷ xs) h (suc i) = none_above limit xs (none_split (ltb limit x) (first_above limit xs) h).1 i

-- a place that was found, by the first element and the rest
pub some_split : (b : Bool) (o : Option ℕ) (i : ℕ) → cond b (Some 1) (option_map suc o) ≡ Some i → ((b ≡ true) × (i ≡ 1)) ⊎ ((b ≡ false) × ((j : ℕ) × (o ≡ Some j) × (i ≡ suc j)))
some_split true o i h = inl (refl, cc)
some_split false None i h = grind arith
some_split false (Some j) i h = inr (refl, (j, refl, cc))

module _ {X : Type 0} (p : X → Bool) where
  -- a place lies within the list
  pub found_within : (xs : List X) (i : ℕ) → first p xs ≡ Some i → (1 ≤ i) × (i ≤ length xs)
  found_within [] i h = grind arith
  found_within (x ∷ xs) i h =
      ⊎_elim
      (λ s. (omega (arith, s.1), omega (arith, s.1)))
      (λ s. let r = found_within xs s.1.0 s.1.1 in (omega (arith, s.1.2), omega (arith, s.1.2, r.1)))
      (some_split (p x) (first p xs) i h)

  -- the first of two lists, one behind the other
  pub first_before : (xs ys : List X) (i : ℕ) → first p xs ≡ Some i → first p (xs ++ ys) ≡ Some i
  first_before [] ys i h = cc
  first_before (x ∷ xs) ys i h =
      ⊎_elim
      (λ s. rw s.0 (ap Some (sym s.1)))
      (λ s. rw (s.0, first_before xs ys s.1.0 s.1.1) (ap Some (sym s.1.2)))
      (some_split (p x) (first p xs) i h)

  pub first_behind : (xs ys : List X) → first p xs ≡ None → first p (xs ++ ys) ≡ option_map (λ i. length xs + i) (first p ys)
  first_behind [] ys h = none (first p ys)
    where
      none : (o : Option ℕ) → o ≡ option_map (λ i. 0 + i) o
      none None = refl
      none (Some i) = ap Some (omega arith)
  first_behind (x ∷ xs) ys h =
      let s = none_split (p x) (first p xs) h in
      rw (s.0, first_behind xs ys s.1) (shifted (length xs) (first p ys))
    where
      shifted : (n : ℕ) (o : Option ℕ) → option_map suc (option_map (λ i. n + i) o) ≡ option_map (λ i. suc n + i) o
      shifted n None = refl
      shifted n (Some i) = ap Some (omega arith)
