-- The words of a line read one after the other. Assumes nothing.
use Rattle.std.proofs.Common.{◌≡◌, ℕ, zero, suc, ◌+◌, ◌-◌, ◌^◌, ◌<◌, ◌≤◌, min, Bool, true, false, cond, not, List, [], ◌∷◌, ◌++◌, length, get_or, take, drop, Some, None, Option, Ok, Err, Result, IsOk, OnOk, OnErr, ◌↔◌, sym, refl, ap, ◌∙◌, add-one, arith, length-take, length-append}
use Rattle.std.proofs.lemmas.List.{length-map, take_more, take_all, take-append-le, map_push}
use Rattle.arrayvec.specs.ArrayVec.{ArrayVec}
use Rattle.roots.proofs.Firsts.{none_more, found_at}
use Rattle.combination.specs.Reading.{digits, number_behind, numbers, first_wrong, at_most}

-- what stands at place i, and behind it
pub here : (ws : List (List ℕ)) (i : ℕ) (w : List ℕ) (more : List (List ℕ)) → drop i ws ≡ w ∷ more → (i < length ws) × (get_or ws i [] ≡ w) × (drop (i + 1) ws ≡ more)
here ws i w more h = rw add-one (go ws i h)
  where
    go : (ws : List (List ℕ)) (i : ℕ) → drop i ws ≡ w ∷ more → (i < length ws) × (get_or ws i [] ≡ w) × (drop (suc i) ws ≡ more)
    go [] zero h = absurd (let z : ◌≡◌ {A = ℕ} 0 1 = cc in let y : ⊥ = omega arith in y)
    go [] (suc i) h = absurd (let z : ◌≡◌ {A = ℕ} 0 1 = cc in let y : ⊥ = omega arith in y)
    go (x ∷ xs) zero h = (omega arith, cc, cc)
    go (x ∷ xs) (suc i) h = let r = go xs i h in (omega (arith, r.0), r.1, r.2)

abbrev cap : ℕ
cap = 2 ^ 32 - 1

-- what `number` answers, by its cases
number_some : (b : Bool) (v n : ℕ) → cond b (Some v) None ≡ Some n → (not b ≡ false) × (v ≡ n)
number_some true v n h = (refl, cc)
number_some false v n h = (cc, cc)

number_none : (b : Bool) (v : ℕ) → cond b (Some v) None ≡ None → not b ≡ true
number_none true v h = cc
number_none false v h = refl

-- one number more behind the first m that are kept
push_room : (m : ℕ) (xs : List ℕ) (n : ℕ) → length (take m xs) < m → take m xs ++ (n ∷ []) ≡ take m (xs ++ (n ∷ []))
push_room m xs n h =
    let few : length xs < m = omega (arith, length-take m xs) in
    ap (λ l. l ++ (n ∷ [])) (take_all m xs (omega arith)) ∙ sym (take_all m (xs ++ (n ∷ [])) (omega (arith, length-append xs (n ∷ []))))

push_full : (m : ℕ) (xs : List ℕ) (n : ℕ) → m ≤ length (take m xs) → take m xs ≡ take m (xs ++ (n ∷ []))
push_full m xs n h = sym (take-append-le m xs (n ∷ []) (omega (arith, length-take m xs)))

-- the numbers of the first i words, of which 120 are kept
abbrev pub first_numbers : List (List ℕ) → ℕ → List ℕ
first_numbers ws i = take 120 (at_most cap (numbers (take i ws)))

module _ (ws : List (List ℕ)) (i : ℕ) (here : i < length ws) (right : first_wrong (take i ws) ≡ None) where
  abbrev read : Option ℕ
  read = cond (digits (get_or ws i [])) (Some (min (number_behind 0 (get_or ws i [])) cap)) None

  -- the word there is none
  pub stopped : read ≡ None → first_wrong ws ≡ Some (i + 1)
  stopped is = found_at (λ v. not (digits v)) [] ws i here right (number_none (digits (get_or ws i [])) (min (number_behind 0 (get_or ws i [])) cap) is)

  module _ (n : ℕ) (is : read ≡ Some n) where
    -- it is a number
    pub still_right : first_wrong (take (i + 1) ws) ≡ None
    still_right = none_more (λ v. not (digits v)) [] ws i here right (number_some (digits (get_or ws i [])) (min (number_behind 0 (get_or ws i [])) cap) n is).0

    grown : at_most cap (numbers (take (i + 1) ws)) ≡ at_most cap (numbers (take i ws)) ++ (n ∷ [])
    grown =
        ap (λ l. at_most cap (numbers l)) (take_more ws i [] here)
        ∙ ap (at_most cap) (map_push (number_behind 0) (take i ws) (get_or ws i []))
        ∙ map_push (λ x. min x cap) (numbers (take i ws)) (number_behind 0 (get_or ws i []))
        ∙ ap (λ x. at_most cap (numbers (take i ws)) ++ (x ∷ [])) (number_some (digits (get_or ws i [])) (min (number_behind 0 (get_or ws i [])) cap) n is).1

    -- and kept while there is room
    pub still_kept : {E : Type 0} (r : Result (Unit {0}) E) (old new : ArrayVec ℕ) → old.items ≡ first_numbers ws i → (IsOk r ↔ (length old.items < 120)) → OnOk r (new.items ≡ old.items ++ (n ∷ [])) → OnErr r (new ≡ old) → OnErr r (length old.items ≡ 120) → new.items ≡ first_numbers ws (i + 1)
    still_kept (Ok u) old new e room ok err full =
        ok ∙ ap (λ l. l ++ (n ∷ [])) e ∙ push_room 120 (at_most cap (numbers (take i ws))) n (omega (arith, ap length e, room.0 refl)) ∙ ap (take 120) (sym grown)
    still_kept (Err f) old new e room ok err full =
        ap (λ v. v.items) err ∙ e ∙ push_full 120 (at_most cap (numbers (take i ws))) n (omega (arith, full, ap length e)) ∙ ap (take 120) (sym grown)

-- a line that was read to its end
module _ (ws : List (List ℕ)) (i : ℕ) (all : i ≡ length ws) where
  front : take i ws ≡ ws
  front = take_all i ws (omega (arith, all))

  pub right_throughout : first_wrong (take i ws) ≡ None → first_wrong ws ≡ None
  right_throughout right = ap first_wrong (sym front) ∙ right

  pub all_kept : (kept : List ℕ) → kept ≡ first_numbers ws i → i ≤ 120 → kept ≡ at_most cap (numbers ws)
  all_kept kept e few =
      let many : length (at_most cap (numbers ws)) ≡ length ws = length-map (numbers ws) _ ∙ length-map ws _ in
      e ∙ ap (λ l. take 120 (at_most cap (numbers l))) front ∙ take_all 120 (at_most cap (numbers ws)) (omega (arith, many, all))
