-- The module of charges keeps the terms. Assumes nothing.
use Rattle.std.specs.Prelude.{◌≡◌, ℕ, zero, suc, ◌+◌, ◌*◌, ◌≤◌, max, Bool, true, false, ◌||◌, List, [], ◌∷◌, ◌++◌, map, Some, None, refl}
use Rattle.std.proofs.Common.{sym, ◌∙◌, ⊎_elim, arith}
use Rattle.std.proofs.lemmas.List.{length-map}
use Rattle.std.proofs.lemmas.Bool.{or_parts}
use Rattle.roots.specs.Form.{at, form, Sound}
use Rattle.roots.specs.Laws.{Each, Wider}
use Rattle.roots.specs.Root.{upper}
use Rattle.roots.proofs.Firsts.{none_split, some_split}
use Rattle.roots.proofs.Laws.{lawful}
use Rattle.charges.specs.Meaning.{Meaning, Terms, AllTerms, downs, ups, widths, depths, most, some_passes, large, first_large, module_of}
use Rattle.charges.specs.Quotients.{passes}

-- what holds of each charge that keeps the terms holds of two columns of numbers
pub each_of : (R : ℕ → ℕ → Type 0) → R 0 0 → (f g : Meaning → ℕ) → ((m : Meaning) → Terms m → R (f m) (g m)) → (ms : List Meaning) → AllTerms ms → Each R (map f ms) (map g ms)
each_of R z f g h ms t = record { as_many = length-map ms f ∙ sym (length-map ms g); each = go ms t }
  where
    go : (ms : List Meaning) → AllTerms ms → (i : ℕ) → R (at (map f ms) i) (at (map g ms) i)
    go [] t i = z
    go (m ∷ ms) t zero = h m t.0
    go (m ∷ ms) t (suc i) = go ms t.1 i

wider_of : (ms : List Meaning) → AllTerms ms → Wider (downs ms 1) (ups ms 1) (widths ms)
wider_of ms t =
    record {
      lows = length-map ms _ ∙ sym (length-map ms _);
      highs = length-map ms _ ∙ sym (length-map ms _);
      each = go ms t;
    }
  where
    go : (ms : List Meaning) → AllTerms ms → (i : ℕ) → at (ups ms 1) i ≤ at (downs ms 1) i + at (widths ms) i
    go [] t i = omega arith
    go (m ∷ ms) t zero = t.0.narrow
    go (m ∷ ms) t (suc i) = go ms t.1 i

most-++ : (xs ys : List ℕ) → most (xs ++ ys) ≡ max (most xs) (most ys)
most-++ [] ys = omega arith
most-++ (x ∷ xs) ys = omega (arith, most-++ xs ys)

most_depths : (ms : List Meaning) → AllTerms ms → most (depths ms) ≤ most (ups ms 1)
most_depths [] t = omega arith
most_depths (m ∷ ms) t = omega (arith, most-++ m.inner (m.U 1 ∷ depths ms), t.0.covers, most_depths ms t.1)

most_at : (xs : List ℕ) (n : ℕ) → ((i : ℕ) → at xs i ≤ n) → most xs ≤ n
most_at [] n h = omega arith
most_at (x ∷ xs) n h = omega (arith, h 0, most_at xs n (λ i. h (suc i)))

pub module_terms : (e : ℕ → ℕ → ℕ) → Sound e → (ms : List Meaning) → AllTerms ms → Terms (module_of e ms)
module_terms e s ms t =
    record {
      order = λ k l.
          let rises = (lawful e s (downs ms k)).lower_rises (ups ms k) (each_of (λ x y. x ≤ y) (omega arith) (λ m. m.D k) (λ m. m.U k) (λ m h. h.order k l) ms t) in
          omega (arith, (lawful e s (ups ms k)).order);
      finer_down = λ j k a b. (lawful e s (downs ms k)).finer_down j (downs ms (j * k)) (each_of (λ x y. j * x ≤ y) (omega arith) (λ m. m.D k) (λ m. m.D (j * k)) (λ m h. h.finer_down j k a b) ms t);
      finer_up = λ j k a b. (lawful e s (ups ms k)).finer_up j (ups ms (j * k)) (each_of (λ x y. y ≤ j * x) (omega arith) (λ m. m.U k) (λ m. m.U (j * k)) (λ m h. h.finer_up j k a b) ms t);
      narrow = rw (length-map ms (λ (m : Meaning). m.width)) at ((lawful e s (downs ms 1)).narrow (ups ms 1) (widths ms) (wider_of ms t));
      covers =
          let own = lawful e s (ups ms 1) in
          let top = most_at (ups ms 1) (upper (form e (ups ms 1))) (λ i. omega (arith, own.covers i, own.order)) in
          omega (arith, most_depths ms t);
    }

-- some charge is too large just when a high at some depth passes the limit
some-++ : (xs ys : List ℕ) → some_passes (xs ++ ys) ≡ (some_passes xs || some_passes ys)
some-++ [] ys = refl
some-++ (x ∷ xs) ys = either (passes x) _ _ _ (some-++ xs ys)
  where
    either : (a b c d : Bool) → b ≡ (c || d) → (a || b) ≡ ((a || c) || d)
    either true b c d h = refl
    either false b c d h = h

pub none_passes : (ms : List Meaning) → first_large ms ≡ None → some_passes (depths ms) ≡ false
none_passes [] h = refl
none_passes (m ∷ ms) h =
    let s = none_split (large m) (first_large ms) h in
    let p = or_parts (some_passes m.inner) (passes (m.U 1)) s.0 in
    some-++ m.inner (m.U 1 ∷ depths ms) ∙ (rw (p.0, p.1) (none_passes ms s.1))

pub some_large_passes : (ms : List Meaning) (i : ℕ) → first_large ms ≡ Some i → some_passes (depths ms) ≡ true
some_large_passes [] i h = cc
some_large_passes (m ∷ ms) i h =
    some-++ m.inner (m.U 1 ∷ depths ms)
    ∙ ⊎_elim
    (λ s. one (some_passes m.inner) (passes (m.U 1)) (some_passes (depths ms)) s.0)
    (λ s. two (some_passes m.inner) (passes (m.U 1)) (some_passes (depths ms)) (some_large_passes ms s.1.0 s.1.1))
    (some_split (large m) (first_large ms) i h)
  where
    one : (a b c : Bool) → (a || b) ≡ true → (a || (b || c)) ≡ true
    one true b c h = refl
    one false true c h = refl
    one false false c h = cc

    two : (a b c : Bool) → c ≡ true → (a || (b || c)) ≡ true
    two true b c h = refl
    two false true c h = refl
    two false false c h = h
