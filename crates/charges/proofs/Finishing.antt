-- Figures one behind the other, up to the first that is too large. Assumes nothing.
use Rattle.std.proofs.Common.{◌≡◌, ℕ, ◌+◌, ◌-◌, ◌<◌, ◌≤◌, true, false, leb, List, [], ◌∷◌, ◌++◌, length, drop, Some, None, sym, refl, ap, ◌∙◌, ap₂, ⊎_elim, append_assoc, arith}
use Rattle.std.proofs.lemmas.List.{drop_at}
use Rattle.std.proofs.lemmas.Bool.{and_parts, and_cases, leb-true, leb-false, le-ltb, lt-ltb}
use Rattle.roots.specs.Form.{form, added, Sound}
use Rattle.roots.specs.Root.{lower, upper}
use Rattle.roots.proofs.Firsts.{none_split}
use Rattle.charges.specs.declared.beside.Beside.{Beside}
use Rattle.charges.specs.declared.pairs.Side.TheVariants.{Low, High}
use Rattle.charges.specs.Formula.{operational_down, operational_up, minimum_down, minimum_up, operational, minimum, diversification, basic, scr, last, limited, figures}
use Rattle.charges.specs.Held.{sides}
use Rattle.charges.specs.Meaning.{Meaning, AllTerms, large, downs, ups, bounds, all_bounds, first_large}
use Rattle.charges.specs.Quotients.{passes}
use Rattle.charges.specs.Steps.{within_limit}
use Rattle.charges.proofs.FormulaTerms.{last_terms}
use Rattle.charges.proofs.Gathering.{lows_of, highs_of}
use Rattle.charges.proofs.Lists.{none_behind, some_behind, bounds-++, bounds_length}
use Rattle.charges.specs.Modules.{none_passes}

-- these charges stand held, and none is too large
abbrev pub Stand : List Meaning → List (ℕ × ℕ) → Type 0
Stand acc held = (first_large acc ≡ None) × (held ≡ all_bounds acc)

pub small_sides : (p : ℕ × ℕ) → within_limit p ≡ true → (p.0 ≤ 16777215) × (p.1 ≤ 16777215)
small_sides p ok =
    let s = and_parts (leb p.0 16777215) (leb p.1 16777215) ok in
    (leb-true p.0 16777215 s.0, leb-true p.1 16777215 s.1)

-- the figure m behind those of acc, with the pair p
module _ (acc : List Meaning) (m : Meaning) (before : List (ℕ × ℕ)) (p : ℕ × ℕ) (stand : Stand acc before) (own : p ≡ bounds m) (single : large m ≡ passes (m.U 1)) where
  took : (after : List (ℕ × ℕ)) → (within_limit p ≡ true) × (after ≡ before ++ (p ∷ [])) → Stand (acc ++ (m ∷ [])) after
  took after push =
      let small : large m ≡ false = single ∙ le-ltb 16777215 (m.U 1) (omega (arith, (small_sides p push.0).1, ap (λ (q : ℕ × ℕ). q.1) own)) in (
        none_behind acc (m ∷ []) stand.0 (rw small),
        push.1 ∙ ap (λ l. l ++ (p ∷ [])) stand.1 ∙ ap (λ q. all_bounds acc ++ (q ∷ [])) own ∙ sym (bounds-++ acc (m ∷ [])),
      )

  stopped : (rest : List Meaning) (f : ℕ) → m.D 1 ≤ m.U 1 → (within_limit p ≡ false) × (f ≡ length before + 1) → first_large (acc ++ (m ∷ rest)) ≡ Some f
  stopped rest f order push =
      let over : 16777215 < m.U 1 =
      ⊎_elim
      (λ l. omega (arith, leb-false p.0 16777215 l, ap (λ (q : ℕ × ℕ). q.0) own))
      (λ h. omega (arith, leb-false p.1 16777215 h, ap (λ (q : ℕ × ℕ). q.1) own))
      (and_cases (leb p.0 16777215) (leb p.1 16777215) push.0)
      in
      let big : large m ≡ true = single ∙ lt-ltb 16777215 (m.U 1) over in
      let same : length acc + 1 ≡ f = omega (arith, push.1, ap length stand.1, bounds_length acc) in
      some_behind acc (m ∷ rest) 1 stand.0 (rw big) ∙ ap Some same

none_behind_part : (xs ys : List Meaning) → first_large (xs ++ ys) ≡ None → first_large ys ≡ None
none_behind_part [] ys h = h
none_behind_part (x ∷ xs) ys h = none_behind_part xs ys (none_split (large x) (first_large (xs ++ ys)) h).1

-- figures behind others, one by one or together
behind_two : (acc : List Meaning) (a b : Meaning) (rest : List Meaning) → ((acc ++ (a ∷ [])) ++ (b ∷ [])) ++ rest ≡ acc ++ (a ∷ b ∷ rest)
behind_two acc a b rest = append_assoc (acc ++ (a ∷ [])) (b ∷ []) rest ∙ append_assoc acc (a ∷ []) (b ∷ rest)

behind_three : (acc : List Meaning) (a b c : Meaning) (rest : List Meaning) → (((acc ++ (a ∷ [])) ++ (b ∷ [])) ++ (c ∷ [])) ++ rest ≡ acc ++ (a ∷ b ∷ c ∷ rest)
behind_three acc a b c rest = append_assoc ((acc ++ (a ∷ [])) ++ (b ∷ [])) (c ∷ []) rest ∙ behind_two acc a b (c ∷ rest)

-- the last figures, from the pairs that the code works out
module _ (e : ℕ → ℕ → ℕ) (sound : Sound e) (t : Beside) (shown members : List Meaning) (terms : AllTerms members) (held : List (ℕ × ℕ)) (stand : Stand (shown ++ members) held) where
  abbrev own_terms : AllTerms (last e t shown members)
  own_terms = last_terms e sound t shown members terms

  basic_single : large (basic e t shown members) ≡ passes ((basic e t shown members).U 1)
  basic_single = rw (none_passes members (none_behind_part shown members stand.0))

  -- the members stand behind the eighteen that are shown
  module _ (many : length shown ≡ 18) where
    tail : drop 18 held ≡ all_bounds members
    tail = ap (drop 18) (stand.1 ∙ bounds-++ shown members) ∙ drop_at (all_bounds shown) (all_bounds members) 18 (bounds_length shown ∙ many)

    pub lows_are : (xs : List ℕ) → xs ≡ sides Low (drop 18 held) → xs ≡ downs members 1
    lows_are xs x = x ∙ ap (sides Low) tail ∙ lows_of members

    pub highs_are : (ys : List ℕ) → ys ≡ sides High (drop 18 held) → ys ≡ ups members 1
    highs_are ys y = y ∙ ap (sides High) tail ∙ highs_of members

    -- the pair of the basic SCR
    pub basic_pair : (xs ys : List ℕ) (a b : ℕ × ℕ) → xs ≡ sides Low (drop 18 held) → ys ≡ sides High (drop 18 held) → a ≡ (lower (form e xs), upper (form e xs)) → b ≡ (lower (form e ys), upper (form e ys)) → (a.0, b.1) ≡ bounds (basic e t shown members)
    basic_pair xs ys a b x y p q =
        ap₂ (λ (l h : ℕ). (l, h))
        (ap (λ (r : ℕ × ℕ). r.0) p ∙ ap (λ l. lower (form e l)) (lows_are xs x))
        (ap (λ (r : ℕ × ℕ). r.1) q ∙ ap (λ l. upper (form e l)) (highs_are ys y))

  module _ (p : ℕ × ℕ) (own : p ≡ bounds (basic e t shown members)) where
    pub stop_basic : (f : ℕ) → (within_limit p ≡ false) × (f ≡ length held + 1) → first_large (limited e t shown members) ≡ Some f
    stop_basic f push = stopped (shown ++ members) (basic e t shown members) held p stand own basic_single _ f (own_terms.0.order 1 (omega arith)) push

    module _ (one : List (ℕ × ℕ)) (push : (within_limit p ≡ true) × (one ≡ held ++ (p ∷ []))) (o : ℕ × ℕ) (o_is : o ≡ (operational_down t 1 p.0, operational_up t 1 p.1)) where
      stand_one : Stand ((shown ++ members) ++ (basic e t shown members ∷ [])) one
      stand_one = took (shown ++ members) (basic e t shown members) held p stand own basic_single one push

      o_own : o ≡ bounds (operational t (basic e t shown members))
      o_own = o_is ∙ ap (λ (q : ℕ × ℕ). (operational_down t 1 q.0, operational_up t 1 q.1)) own

      module _ (two : List (ℕ × ℕ)) (push_two : (within_limit o ≡ true) × (two ≡ one ++ (o ∷ []))) (s : ℕ × ℕ) (s_is : s ≡ (p.0 + o.0, p.1 + o.1)) where
        stand_two : Stand (((shown ++ members) ++ (basic e t shown members ∷ [])) ++ (operational t (basic e t shown members) ∷ [])) two
        stand_two = took _ (operational t (basic e t shown members)) one o stand_one o_own refl two push_two

        s_own : s ≡ bounds (scr e t shown members)
        s_own = s_is ∙ ap₂ (λ (x y : ℕ × ℕ). (x.0 + y.0, x.1 + y.1)) own o_own

        pub stop_scr : (f : ℕ) → (within_limit s ≡ false) × (f ≡ length two + 1) → first_large (limited e t shown members) ≡ Some f
        stop_scr f bad =
            ap first_large (sym (behind_two (shown ++ members) _ _ _))
            ∙ stopped _ (scr e t shown members) two s stand_two s_own refl _ f (own_terms.1.1.0.order 1 (omega arith)) bad

        module _ (three : List (ℕ × ℕ)) (push_three : (within_limit s ≡ true) × (three ≡ two ++ (s ∷ []))) (m : ℕ × ℕ) (m_is : m ≡ (minimum_down t 1 s.0, minimum_up t 1 s.1)) where
          stand_three : Stand ((((shown ++ members) ++ (basic e t shown members ∷ [])) ++ (operational t (basic e t shown members) ∷ [])) ++ (scr e t shown members ∷ [])) three
          stand_three = took _ (scr e t shown members) two s stand_two s_own refl three push_three

          m_own : m ≡ bounds (minimum t (scr e t shown members))
          m_own = m_is ∙ ap (λ (q : ℕ × ℕ). (minimum_down t 1 q.0, minimum_up t 1 q.1)) s_own

          pub stop_minimum : (f : ℕ) → (within_limit m ≡ false) × (f ≡ length three + 1) → first_large (limited e t shown members) ≡ Some f
          stop_minimum f bad =
              ap first_large (sym (behind_three (shown ++ members) _ _ _ _))
              ∙ stopped _ (minimum t (scr e t shown members)) three m stand_three m_own refl [] f (own_terms.1.1.1.0.order 1 (omega arith)) bad

          pub all_figures : (four ps : List (ℕ × ℕ)) → (within_limit m ≡ true) × (four ≡ three ++ (m ∷ [])) → (d : ℕ × ℕ) → d ≡ (added (downs members 1) - p.1, added (ups members 1) - p.0) → ps ≡ four ++ (d ∷ []) → (first_large (limited e t shown members) ≡ None) × (ps ≡ all_bounds (figures e t shown members))
          all_figures four ps push_four d d_is last_is =
              let stand_four = took _ (minimum t (scr e t shown members)) three m stand_three m_own refl four push_four in
              let whole = behind_three (shown ++ members) (basic e t shown members) (operational t (basic e t shown members)) (scr e t shown members) (minimum t (scr e t shown members) ∷ []) in
              let d_own : d ≡ bounds (diversification members (basic e t shown members)) = d_is ∙ ap (λ (q : ℕ × ℕ). (added (downs members 1) - q.1, added (ups members 1) - q.0)) own in (
                ap first_large (sym whole) ∙ stand_four.0,
                last_is ∙ ap₂ (λ (l : List (ℕ × ℕ)) (q : ℕ × ℕ). l ++ (q ∷ [])) (stand_four.1 ∙ ap all_bounds whole) d_own ∙ sym (bounds-++ (limited e t shown members) _),
              )
