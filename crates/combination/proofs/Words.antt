-- Lines and words, as they are cut out of a text. Assumes nothing.
use Rattle.std.proofs.Common.{◌≡◌, ℕ, suc, ◌+◌, ◌-◌, ◌<◌, ◌≤◌, Bool, true, false, cond, not, ltb, List, [], ◌∷◌, length, take, drop, Some, None, Option, sym, refl, ap, ap₂, ◌∙◌, one-add, arith, length-take, length-drop}
use Rattle.std.proofs.lemmas.Bool.Decides.{nat_tests}
use Rattle.std.proofs.lemmas.List.{take_all, take_rest, drop_all}
use Rattle.std.proofs.lemmas.Option.{cond_some}
use Rattle.std.proofs.lemmas.List.Sums.{prefix_len-le-length}
use Rattle.std.specs.List.{position_or_len, list_any}
use Rattle.std.specs.Option.{unwrap_or}
use Rattle.combination.specs.Reading.{before, behind, blank, word_before, later_words, words}

-- the bytes before the first that passes, and those behind it
module _ (p : ℕ → Bool) where
  pub before_first : (bs : List ℕ) → take (position_or_len p bs) bs ≡ before p bs
  before_first [] = refl
  before_first (b ∷ bs) = step (p b) b bs (position_or_len p bs) (before_first bs)
    where
      step : (t : Bool) (b : ℕ) (bs : List ℕ) (n : ℕ) → take n bs ≡ before p bs → take (cond (not t) (1 + n) 0) (b ∷ bs) ≡ cond t [] (b ∷ before p bs)
      step true b bs n h = refl
      step false b bs n h = rw (one-add, h)

  pub behind_first : (bs : List ℕ) → drop (position_or_len p bs + 1) bs ≡ behind p bs
  behind_first [] = refl
  behind_first (b ∷ bs) = step (p b) b bs (position_or_len p bs) (behind_first bs)
    where
      step : (t : Bool) (b : ℕ) (bs : List ℕ) (n : ℕ) → drop (n + 1) bs ≡ behind p bs → drop (cond (not t) (1 + n) 0 + 1) (b ∷ bs) ≡ cond t bs (behind p bs)
      step true b bs n h = refl
      step false b bs n h = (let e : 1 + n + 1 ≡ suc (n + 1) = omega arith in rw e h)

-- a text that is cut at what `position` answers
module _ (p : ℕ → Bool) (bs : List ℕ) where
  abbrev pub answered : Option ℕ
  answered = cond (ltb (position_or_len p bs) (length bs)) (Some (position_or_len p bs)) None

  pub cut : (i : ℕ) → answered ≡ Some i → (take i bs ≡ before p bs) × (take (length bs - (i + 1)) (drop (i + 1) bs) ≡ behind p bs)
  cut i e =
      let same : position_or_len p bs ≡ i = (cond_some _ _ _ e).1 in
      (ap (λ n. take n bs) (sym same) ∙ before_first p bs, take_rest bs (i + 1) ∙ ap (λ n. drop (n + 1) bs) (sym same) ∙ behind_first p bs)

  pub whole : answered ≡ None → (bs ≡ before p bs) × ([] ≡ behind p bs)
  whole e =
      let past : length bs ≤ position_or_len p bs = grind (arith, nat_tests) in
      (sym (take_all _ bs past) ∙ before_first p bs, sym (drop_all _ bs (omega arith)) ∙ behind_first p bs)

-- some byte is no blank just where a word stands
pub any_words : (bs : List ℕ) → list_any (λ b. not (blank b)) bs ≡ ltb 0 (length (words bs))
any_words [] = grind (arith, nat_tests)
any_words (b ∷ bs) = step (blank b) refl (any_words bs)
  where
    step : (t : Bool) → blank b ≡ t → list_any (λ c. not (blank c)) bs ≡ ltb 0 (length (words bs)) → list_any (λ c. not (blank c)) (b ∷ bs) ≡ ltb 0 (length (words (b ∷ bs)))
    step true e h = rw e h
    step false e h = rw e (grind (arith, nat_tests))

-- a byte that stands in a word
abbrev pub solid : ℕ → Bool
solid b = not (blank b)

-- blanks in front make no word
pub words_skip : (bs : List ℕ) → words (drop (position_or_len solid bs) bs) ≡ words bs
words_skip [] = refl
words_skip (b ∷ bs) = step (blank b) (position_or_len solid bs) refl (words_skip bs)
  where
    step : (t : Bool) (n : ℕ) → blank b ≡ t → words (drop n bs) ≡ words bs → words (drop (cond (not (not t)) (1 + n) 0) (b ∷ bs)) ≡ words (b ∷ bs)
    step true n e h = rw (one-add, h, e)
    step false n e h = refl

-- from the first blank on stand the words behind it
later_first : (bs : List ℕ) → words (drop (position_or_len blank bs) bs) ≡ later_words bs
later_first [] = refl
later_first (b ∷ bs) = step (blank b) (position_or_len blank bs) refl (later_first bs)
  where
    step : (t : Bool) (n : ℕ) → blank b ≡ t → words (drop n bs) ≡ later_words bs → words (drop (cond (not t) (1 + n) 0) (b ∷ bs)) ≡ cond t (words bs) (later_words bs)
    step true n e h = rw e
    step false n e h = rw (one-add, h)

pub words_run : (bs : List ℕ) → words bs ≡ word_before (take (position_or_len blank bs) bs) (words (drop (position_or_len blank bs) bs))
words_run bs = sym (ap₂ word_before (before_first blank bs) (later_first bs))

pub word_some : (w : List ℕ) (ws : List (List ℕ)) → 0 < length w → word_before w ws ≡ w ∷ ws
word_some [] ws h = absurd (let z : ⊥ = omega arith in z)
word_some (b ∷ bs) ws h = refl

-- where no word begins, none stands
pub nothing_left : (bs : List ℕ) → answered solid bs ≡ None → words bs ≡ []
nothing_left bs e =
    let past : length bs ≤ position_or_len solid bs = grind (arith, nat_tests) in
    sym (words_skip bs) ∙ ap words (drop_all _ bs past)

-- where one begins, a byte that is no blank stands
begins : (bs : List ℕ) → position_or_len solid bs < length bs → 0 < position_or_len blank (drop (position_or_len solid bs) bs)
begins [] h = absurd (let z : ⊥ = omega arith in z)
begins (b ∷ bs) h = step (blank b) (position_or_len solid bs) refl (begins bs) h
  where
    step : (t : Bool) (n : ℕ) → blank b ≡ t → (n < length bs → 0 < position_or_len blank (drop n bs)) → cond (not (not t)) (1 + n) 0 < suc (length bs) → 0 < position_or_len blank (drop (cond (not (not t)) (1 + n) 0) (b ∷ bs))
    step true n e f h = rw one-add (f (omega arith))
    step false n e f h = rw e (omega arith)

-- the place of the first byte that passes, or the end
pub first_or_end : (p : ℕ → Bool) (bs : List ℕ) → unwrap_or (answered p bs) (length bs) ≡ position_or_len p bs
first_or_end p bs = step (position_or_len p bs) (ltb (position_or_len p bs) (length bs)) refl (prefix_len-le-length (λ b. not (p b)) bs)
  where
    step : (n : ℕ) (t : Bool) → ltb n (length bs) ≡ t → n ≤ length bs → unwrap_or (cond t (Some n) None) (length bs) ≡ n
    step n true e h = refl
    step n false e h = grind (arith, nat_tests)

-- the first word of a text, and what stands behind it
module _ (bs rest w back : List ℕ) (i n : ℕ) (some : answered solid bs ≡ Some i) (is_rest : rest ≡ drop i bs) (is_n : n ≡ position_or_len blank rest) (is_w : w ≡ take n rest) (is_back : back ≡ drop n rest) where
  found : position_or_len solid bs ≡ i
  found = (cond_some _ _ _ some).1

  within : i < length bs
  within = grind (arith, nat_tests)

  long : 0 < n
  long = rw (is_n, is_rest, sym found) (begins bs (rw found within))

  pub word_first : words bs ≡ w ∷ words back
  word_first =
      let few : n ≤ length rest = omega (arith, is_n, prefix_len-le-length solid rest) in
      sym (words_skip bs)
      ∙ ap words (ap (λ k. drop k bs) found ∙ sym is_rest)
      ∙ words_run rest
      ∙ ap₂ word_before (ap (λ k. take k rest) (sym is_n) ∙ sym is_w) (ap words (ap (λ k. drop k rest) (sym is_n) ∙ sym is_back))
      ∙ word_some w (words back) (omega (arith, long, few, ap length is_w, length-take n rest))

  pub shorter : length back < length bs
  shorter = omega (arith, long, within, ap length is_back, length-drop n rest, ap length is_rest, length-drop i bs)

-- no more words than bytes
later_few : (bs : List ℕ) → (length (words bs) ≤ length bs) × (length (later_words bs) ≤ length bs)
later_few [] = (omega arith, omega arith)
later_few (b ∷ bs) = let r = later_few bs in step (blank b) refl r.0 r.1
  where
    step : (t : Bool) → blank b ≡ t → length (words bs) ≤ length bs → length (later_words bs) ≤ length bs → (length (words (b ∷ bs)) ≤ suc (length bs)) × (length (later_words (b ∷ bs)) ≤ suc (length bs))
    step true e h k = (rw e (omega arith), rw e (omega arith))
    step false e h k = (rw e (omega arith), rw e (omega arith))

pub words_few : (bs : List ℕ) → length (words bs) ≤ length bs
words_few bs = (later_few bs).0
