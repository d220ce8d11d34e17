-- The table that is filled from the entries above its diagonal. Assumes nothing.
use Rattle.std.proofs.Common.{◌≡◌, ℕ, zero, suc, ◌+◌, ◌-◌, ◌*◌, ◌/◌, ◌%◌, ◌<◌, ◌≤◌, Bool, true, false, cond, ◌&&◌, ltb, List, get_or, sym, refl, ap, ◌∙◌, subst, ap₂, arith}
use native.Mathlib.Decide.{dec_le}
use Rattle.std.proofs.lemmas.Bool.Decides.{nat_tests}
use Rattle.std.specs.Array.{IsFromFnResultFrom}
use Rattle.std.specs.Fn.{Called}
use denote.Param.Members.{Mut}
use Rattle.roots.specs.Cells.{identity, entry, before, above, filled}

-- an array made by a closure that gives h at each place
module _ {F : Type 0} (g : Mut F (ℕ × Unit {0}) ℕ) (h : ℕ → ℕ) (f : F) (gives : (j y : ℕ) (q : F) → Called g f (j, tt) y q → (q ≡ f) × (y ≡ h j)) where
  pub made_by : (ys : List ℕ) (i n : ℕ) → IsFromFnResultFrom g f ys i n → (k : ℕ) → i ≤ k → k < i + n → get_or ys k 0 ≡ h k
  made_by ys i zero r k a b = omega arith
  made_by ys i (suc n) (q, y, e, c, r) k a b =
      let s = gives i y q c in
      elim (dec_le (i + 1) k) [
        | yes p ↦ made_by ys (i + 1) n (subst (λ v. IsFromFnResultFrom g v ys (i + 1) n) s.0 r) k p (omega arith)
        | no p ↦ (let same : k ≡ i = omega arith in rw same (e.1 0 ∙ s.1))
      ]

before_twice : (n r : ℕ) → r ≤ n → 2 * before n r + r * (r + 1) ≡ 2 * (r * n)
before_twice n zero h = omega arith
before_twice n (suc r) h = omega (arith, before_twice n r (omega arith))

-- the entries in the rows before r, of which the longest two have d together
pub before_half : (n r d : ℕ) → r ≤ n → d + (r + 1) ≡ 2 * n → r * d / 2 ≡ before n r
before_half n r d h e = let k = ap (λ v. r * v) e in omega (arith, before_twice n r h)

module _ (n : ℕ) (given : List ℕ) where
  pub filled_diagonal : (r : ℕ) → filled n given r r ≡ 100
  filled_diagonal r = grind (arith, nat_tests)

  pub filled_symmetric : (r c : ℕ) → filled n given r c ≡ filled n given c r
  filled_symmetric r c = grind (arith, nat_tests)

  above_small : ((i : ℕ) → get_or given i 0 ≤ 100) → (r c : ℕ) → above n given r c ≤ 100
  above_small h r c = let k = h (before n r + (c - suc r)) in grind (arith, nat_tests)

  pub filled_small : ((i : ℕ) → get_or given i 0 ≤ 100) → (r c : ℕ) → filled n given r c ≤ 100
  filled_small h r c =
      let a = above_small h r c in
      let b = above_small h c r in
      grind (arith, nat_tests)

  pub filled_outside : (r c : ℕ) → n ≤ c → filled n given r c ≡ identity r c
  filled_outside r c h = grind (arith, nat_tests)

  -- cells that were filled one after the other are the table
  pub entry_filled : (cells : List ℕ) → n ≤ 16 → ((k : ℕ) → k < 256 → get_or cells k 0 ≡ filled n given (k / 16) (k % 16)) → (r c : ℕ) → entry cells r c ≡ filled n given r c
  entry_filled cells few h r c = go (ltb r 16 && ltb c 16) refl
    where
      inside : r < 16 → c < 16 → get_or cells (r * 16 + c) 0 ≡ filled n given r c
      inside a b =
          let row : (r * 16 + c) / 16 ≡ r = omega arith in
          let col : (r * 16 + c) % 16 ≡ c = omega arith in
          h (r * 16 + c) (omega arith) ∙ ap₂ (filled n given) row col

      go : (b : Bool) → (ltb r 16 && ltb c 16) ≡ b → cond b (get_or cells (r * 16 + c) 0) (identity r c) ≡ filled n given r c
      go true e =
          let a : r < 16 = grind (arith, nat_tests) in
          let b : c < 16 = grind (arith, nat_tests) in
          inside a b
      go false e = grind (arith, nat_tests)

  -- so they keep the invariant of a table
  pub kept : (cells : List ℕ) → n ≤ 16 → ((i : ℕ) → get_or given i 0 ≤ 100) → ((k : ℕ) → k < 256 → get_or cells k 0 ≡ filled n given (k / 16) (k % 16)) → ((r c : ℕ) → entry cells r c ≡ entry cells c r) × ((r : ℕ) → entry cells r r ≡ 100) × ((r c : ℕ) → entry cells r c ≤ 100) × ((r c : ℕ) → n ≤ c → entry cells r c ≡ identity r c)
  kept cells few small h =
      let e = entry_filled cells few h in (
        λ r c. e r c ∙ filled_symmetric r c ∙ sym (e c r),
        λ r. e r r ∙ filled_diagonal r,
        λ r c. subst (λ v. v ≤ 100) (sym (e r c)) (filled_small small r c),
        λ r c past. e r c ∙ filled_outside r c past,
      )
