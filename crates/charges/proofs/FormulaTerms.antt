-- Figures 24 to 28 keep the terms, for any charges. Assumes nothing.
use Rattle.std.proofs.Common.{◌≡◌, ℕ, ◌+◌, ◌*◌, ◌≤◌, min, max, List, [], ◌∷◌, ◌++◌, mul-le-mul_left, arith}
use native.Mathlib.Decide.{dec_le}
use native.Mathlib.Nat.{mul-sub}
use Rattle.roots.specs.Form.{added, Sound}
use Rattle.charges.specs.declared.beside.Beside.{Beside}
use Rattle.charges.specs.Formula.{operational, together, minimum, diversification, basic, scr, last, limited, figures}
use Rattle.charges.specs.Meaning.{Meaning, Terms, AllTerms, downs, ups, widths}
use Rattle.charges.proofs.Lists.{all-++}
use Rattle.charges.specs.Modules.{module_terms}
use Rattle.charges.specs.Quotient.{under_finer, over_finer}

-- the smaller and the larger of two, j times finer
module _ (j x y u v : ℕ) where
  min_down : j * x ≤ u → j * y ≤ v → j * min x y ≤ min u v
  min_down a b =
      elim (dec_le x y) [
        | yes p ↦ (let e : min x y ≡ x = omega arith in rw e (omega (arith, mul-le-mul_left j p)))
        | no p ↦ (let e : min x y ≡ y = omega arith in let q : y ≤ x = omega arith in rw e (omega (arith, mul-le-mul_left j q)))
      ]

  min_up : u ≤ j * x → v ≤ j * y → min u v ≤ j * min x y
  min_up a b =
      elim (dec_le x y) [
        | yes p ↦ (let e : min x y ≡ x = omega arith in rw e (omega arith))
        | no p ↦ (let e : min x y ≡ y = omega arith in rw e (omega arith))
      ]

  max_down : j * x ≤ u → j * y ≤ v → j * max x y ≤ max u v
  max_down a b =
      elim (dec_le x y) [
        | yes p ↦ (let e : max x y ≡ y = omega arith in rw e (omega arith))
        | no p ↦ (let e : max x y ≡ x = omega arith in rw e (omega arith))
      ]

  max_up : u ≤ j * x → v ≤ j * y → max u v ≤ j * max x y
  max_up a b =
      elim (dec_le x y) [
        | yes p ↦ (let e : max x y ≡ y = omega arith in rw e (omega (arith, mul-le-mul_left j p)))
        | no p ↦ (let e : max x y ≡ x = omega arith in let q : y ≤ x = omega arith in rw e (omega (arith, mul-le-mul_left j q)))
      ]

pub operational_terms : (t : Beside) (b : Meaning) → Terms b → Terms (operational t b)
operational_terms t b h =
    record {
      order = λ k l. omega (arith, h.order k l);
      finer_down = λ j k hj hk.
          min_down j _ _ _ _ (under_finer j (3 * b.D k) 10 (3 * b.D (j * k)) (omega arith) (omega (arith, h.finer_down j k hj hk)))
          (max_down j _ _ _ _ (under_finer j (k * t.premiums) 100 (j * k * t.premiums) (omega arith) (omega arith)) (under_finer j (k * t.provisions) 100 (j * k * t.provisions) (omega arith) (omega arith)));
      finer_up = λ j k hj hk.
          min_up j _ _ _ _ (over_finer j (3 * b.U k) 10 (3 * b.U (j * k)) (omega arith) (omega (arith, h.finer_up j k hj hk)))
          (max_up j _ _ _ _ (over_finer j (k * t.premiums) 100 (j * k * t.premiums) (omega arith) (omega arith)) (over_finer j (k * t.provisions) 100 (j * k * t.provisions) (omega arith) (omega arith)));
      narrow = omega (arith, h.narrow);
      covers = omega arith;
    }

pub together_terms : (a b : Meaning) → Terms a → Terms b → Terms (together a b)
together_terms a b g h =
    record {
      order = λ k l. omega (arith, g.order k l, h.order k l);
      finer_down = λ j k hj hk. omega (arith, g.finer_down j k hj hk, h.finer_down j k hj hk);
      finer_up = λ j k hj hk. omega (arith, g.finer_up j k hj hk, h.finer_up j k hj hk);
      narrow = omega (arith, g.narrow, h.narrow);
      covers = omega arith;
    }

pub minimum_terms : (t : Beside) (s : Meaning) → Terms s → Terms (minimum t s)
minimum_terms t s h =
    record {
      order = λ k l. omega (arith, h.order k l);
      finer_down = λ j k hj hk. max_down j _ _ _ _ (under_finer j (s.D k) 3 (s.D (j * k)) (omega arith) (h.finer_down j k hj hk)) (omega arith);
      finer_up = λ j k hj hk. max_up j _ _ _ _ (over_finer j (s.U k) 3 (s.U (j * k)) (omega arith) (h.finer_up j k hj hk)) (omega arith);
      narrow = omega (arith, h.narrow);
      covers = omega arith;
    }

added_order : (ms : List Meaning) → AllTerms ms → (k : ℕ) → 1 ≤ k → added (downs ms k) ≤ added (ups ms k)
added_order [] t k h = omega arith
added_order (m ∷ ms) t k h = omega (arith, t.0.order k h, added_order ms t.1 k h)

added_down : (ms : List Meaning) → AllTerms ms → (j k : ℕ) → 1 ≤ j → 1 ≤ k → j * added (downs ms k) ≤ added (downs ms (j * k))
added_down [] t j k h l = omega arith
added_down (m ∷ ms) t j k h l = omega (arith, t.0.finer_down j k h l, added_down ms t.1 j k h l)

added_up : (ms : List Meaning) → AllTerms ms → (j k : ℕ) → 1 ≤ j → 1 ≤ k → added (ups ms (j * k)) ≤ j * added (ups ms k)
added_up [] t j k h l = omega arith
added_up (m ∷ ms) t j k h l = omega (arith, t.0.finer_up j k h l, added_up ms t.1 j k h l)

added_narrow : (ms : List Meaning) → AllTerms ms → added (ups ms 1) ≤ added (downs ms 1) + added (widths ms)
added_narrow [] t = omega arith
added_narrow (m ∷ ms) t = omega (arith, t.0.narrow, added_narrow ms t.1)

pub diversification_terms : (ms : List Meaning) (b : Meaning) → AllTerms ms → Terms b → Terms (diversification ms b)
diversification_terms ms b t h =
    record {
      order = λ k l. omega (arith, added_order ms t k l, h.order k l);
      finer_down = λ j k hj hk. omega (arith, mul-sub j (added (downs ms k)) (b.U k), added_down ms t j k hj hk, h.finer_up j k hj hk);
      finer_up = λ j k hj hk. omega (arith, mul-sub j (added (ups ms k)) (b.D k), added_up ms t j k hj hk, h.finer_down j k hj hk);
      narrow = omega (arith, added_narrow ms t, h.narrow);
      covers = omega arith;
    }

pub last_terms : (e : ℕ → ℕ → ℕ) → Sound e → (t : Beside) (shown members : List Meaning) → AllTerms members → AllTerms (last e t shown members)
last_terms e s t shown members h =
    let b = module_terms e s members h in
    let o = operational_terms t (basic e t shown members) b in
    let c = together_terms (basic e t shown members) (operational t (basic e t shown members)) b o in
    (b, (o, (c, (minimum_terms t (scr e t shown members) c, tt))))

-- the formula, for any charges
pub figures_terms : (e : ℕ → ℕ → ℕ) → Sound e → (t : Beside) (shown members : List Meaning) → AllTerms shown → AllTerms members → AllTerms (figures e t shown members)
figures_terms e s t shown members g h =
    all-++ (limited e t shown members) _
    (all-++ (shown ++ members) (last e t shown members) (all-++ shown members g h) (last_terms e s t shown members h))
    (diversification_terms members (basic e t shown members) h (module_terms e s members h), tt)
