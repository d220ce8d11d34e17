-- From what the two lines hold to what the text comes to. Assumes nothing.
use Rattle.std.proofs.Common.{◌≡◌, ℕ, ◌-◌, ◌^◌, ◌<◌, ◌≤◌, min, Bool, true, false, cond, eqb, ltb, List, [], ◌∷◌, length, Some, None, Ok, Err, Option, Result, sym, refl, ap, ◌∙◌, ap₂, arith}
use native.Mathlib.Decide.{dec_le}
use Rattle.std.proofs.lemmas.List.{length-map}
use Rattle.std.proofs.lemmas.Bool.{le-ltb, lt-ltb, ltb-false, le-leb}
use Rattle.std.proofs.lemmas.Bool.Decides.{nat_tests}
use Rattle.std.specs.Option.{option_map}
use Rattle.std.specs.Result.{MatchResult}
use Rattle.roots.specs.declared.amounts.Amounts.{Amounts}
use Rattle.roots.specs.declared.amounts.AmountFault.{AmountFault}
use Rattle.roots.specs.declared.amounts.AmountFault.TheVariants as amount
use Rattle.roots.specs.declared.table.Table.{Table}
use Rattle.roots.specs.declared.table.TableFault.{TableFault}
use Rattle.roots.specs.declared.table.TableFault.TheVariants as table
use Rattle.roots.specs.Answers.{sized, amounts_fault, table_fault, AmountsMade, TableMade}
use Rattle.roots.specs.Cells.{entry_count, filled}
use Rattle.roots.specs.First.{first_above}
use Rattle.roots.specs.Form.{form}
use Rattle.roots.specs.Held.{held}
use Rattle.roots.specs.Root.{lower, upper}
use Rattle.roots.proofs.Firsts.{none_split}
use Rattle.roots.proofs.Laws.{form_same}
use Rattle.combination.specs.declared.answer.Combination.{Combination}
use Rattle.combination.specs.declared.answer.Fault.{Fault}
use Rattle.combination.specs.declared.answer.Fault.TheVariants.{Extra}
use Rattle.combination.specs.Judged.{amounts, entries, combination, ended, judged}
use Rattle.combination.specs.Parts.{amount_fault, entry_fault, TableRead}
use Rattle.combination.specs.Reading.{line, after_line, words, numbers, first_wrong, at_most}

-- a number brought down to a limit passes a lower one just when it did
cap_passes : (limit cap x : ℕ) → limit < cap → ltb limit (min x cap) ≡ ltb limit x
cap_passes limit cap x h =
    elim (dec_le x limit) [
      | yes p ↦ le-ltb limit (min x cap) (omega arith) ∙ sym (le-ltb limit x p)
      | no p ↦ lt-ltb limit (min x cap) (omega arith) ∙ sym (lt-ltb limit x (omega arith))
    ]

above_capped : (limit cap : ℕ) → limit < cap → (xs : List ℕ) → first_above limit (at_most cap xs) ≡ first_above limit xs
above_capped limit cap h [] = refl
above_capped limit cap h (x ∷ xs) = rw (cap_passes limit cap x h, above_capped limit cap h xs)

same_capped : (limit cap : ℕ) → limit < cap → (xs : List ℕ) → first_above limit xs ≡ None → at_most cap xs ≡ xs
same_capped limit cap h [] e = refl
same_capped limit cap h (x ∷ xs) e =
    let s = none_split (ltb limit x) (first_above limit xs) e in
    let low : min x cap ≡ x = omega (arith, ltb-false limit x s.0) in
    ap₂ ◌∷◌ low (same_capped limit cap h xs s.1)

abbrev cap : ℕ
cap = 2 ^ 32 - 1

mapped_none : {E : Type 0} (f : ℕ → E) (o : Option ℕ) → option_map f o ≡ None → o ≡ None
mapped_none f None h = refl
mapped_none f (Some i) h = grind arith

mapped_some : {E : Type 0} (f : ℕ → E) (o : Option ℕ) (e : E) → option_map f o ≡ Some e → (i : ℕ) × (o ≡ Some i) × (f i ≡ e)
mapped_some f None e h = grind arith
mapped_some f (Some i) e h = (i, refl, cc)

-- a size that was made
within : (m n : ℕ) → Some m ≡ sized n → (m ≡ n) × (2 ≤ n) × (n ≤ 16)
within m n h = grind (arith, nat_tests)

module _ (ws : List (List ℕ)) (right : first_wrong ws ≡ None) where
  -- the count is right, so a fault is an amount above the limit
  module _ (xs : List ℕ) (is : xs ≡ at_most cap (numbers ws)) (m : ℕ) (size : Some m ≡ sized (length xs)) where
    many : length xs ≡ length ws
    many = ap length is ∙ length-map (numbers ws) _ ∙ length-map ws _

    least : 2 ≤ length ws
    least = omega (arith, (within m (length xs) size).1, many)

    most : length ws ≤ 16
    most = omega (arith, (within m (length xs) size).2, many)

    judged_amounts : amounts_fault xs ≡ option_map amount.Large (first_above 16777215 (numbers ws))
    judged_amounts = rw (le-leb (length xs) 16 (omega (arith, many, most)), is, above_capped 16777215 cap (omega arith) (numbers ws))

    pub amounts_right : (a : Amounts) → AmountsMade xs (Ok a) → (amounts ws ≡ Ok (held a)) × (m ≡ length (held a))
    amounts_right a h =
        let none = mapped_none amount.Large (first_above 16777215 (numbers ws)) (sym judged_amounts ∙ h.0) in (
          rw (right, le-leb 2 (length ws) least, le-leb (length ws) 16 most, none) (ap Ok (sym (h.1 ∙ is ∙ same_capped 16777215 cap (omega arith) (numbers ws) none))),
          (within m (length xs) size).0 ∙ ap length (sym h.1),
        )

    pub amounts_wrong : (e : AmountFault) (n : ℕ) → amounts_fault xs ≡ Some e → amounts ws ≡ Err (amount_fault e n)
    amounts_wrong e n h =
        let s = mapped_some amount.Large (first_above 16777215 (numbers ws)) e (sym judged_amounts ∙ h) in
        at_place s.0 s.1 s.2
      where
        at_place : (i : ℕ) → first_above 16777215 (numbers ws) ≡ Some i → amount.Large i ≡ e → amounts ws ≡ Err (amount_fault e n)
        at_place i a b = rw (right, le-leb 2 (length ws) least, le-leb (length ws) 16 most, a, ← b)

  module _ (n : ℕ) (kept given : List ℕ) (of_line : kept ≡ at_most cap (numbers ws)) (as_bytes : given ≡ at_most 255 kept) where
    is : given ≡ at_most 255 (at_most cap (numbers ws))
    is = as_bytes ∙ ap (at_most 255) of_line

    all_kept : length kept ≡ length ws
    all_kept = ap length of_line ∙ length-map (numbers ws) _ ∙ length-map ws _

    as_many : length given ≡ length ws
    as_many = ap length as_bytes ∙ length-map kept _ ∙ all_kept

    judged_entries : table_fault n given ≡ cond (eqb (length ws) (entry_count n)) (option_map table.Entry (first_above 100 (numbers ws))) (Some table.Count)
    judged_entries =
        let above : first_above 100 given ≡ first_above 100 (numbers ws) = ap (first_above 100) is ∙ above_capped 100 255 (omega arith) (at_most cap (numbers ws)) ∙ above_capped 100 cap (omega arith) (numbers ws) in
        rw (as_many, above)

    entries_right : table_fault n given ≡ None → (entries n ws ≡ Ok (numbers ws)) × (given ≡ numbers ws)
    entries_right h = go (eqb (length ws) (entry_count n)) refl (sym judged_entries ∙ h)
      where
        go : (b : Bool) → eqb (length ws) (entry_count n) ≡ b → cond b (option_map table.Entry (first_above 100 (numbers ws))) (Some table.Count) ≡ None → (entries n ws ≡ Ok (numbers ws)) × (given ≡ numbers ws)
        go true e k =
            let none = mapped_none table.Entry (first_above 100 (numbers ws)) k in
            let kept = same_capped 100 cap (omega arith) (numbers ws) none in
            (rw (right, e, none), is ∙ ap (at_most 255) kept ∙ same_capped 100 255 (omega arith) (numbers ws) none)
        go false e k = grind arith

    entries_wrong : (e : TableFault) → table_fault n given ≡ Some e → entries n ws ≡ Err (entry_fault e (length ws) (entry_count n))
    entries_wrong e h = go (eqb (length ws) (entry_count n)) refl (sym judged_entries ∙ h)
      where
        go : (b : Bool) → eqb (length ws) (entry_count n) ≡ b → cond b (option_map table.Entry (first_above 100 (numbers ws))) (Some table.Count) ≡ Some e → entries n ws ≡ Err (entry_fault e (length ws) (entry_count n))
        go true f k = let s = mapped_some table.Entry (first_above 100 (numbers ws)) e k in at_place s.0 s.1 s.2
          where
            at_place : (i : ℕ) → first_above 100 (numbers ws) ≡ Some i → table.Entry i ≡ e → entries n ws ≡ Err (entry_fault e (length ws) (entry_count n))
            at_place i a b = rw (right, f, a, ← b)
        go false f k = (let kind : table.Count ≡ e = grind arith in rw (right, f, ← kind))

    -- the table that was made, or the fault that is told
    pub table_read : (made : Result Table TableFault) (told : Result Table Fault) (a b : ℕ) → TableMade n given made → a ≡ length kept → b ≡ entry_count n → MatchResult made (λ t. told ≡ Ok t) (λ f. told ≡ Err (entry_fault f a b)) → TableRead n ws told
    table_read (Ok t) told a b h c d e =
        let r = entries_right h.0 in
        rw e (r.0, λ i j. h.2 i j ∙ ap (λ given. filled n given i j) r.1)
    table_read (Err f) told a b h c d e = rw (e, c, d, all_kept) (entries_wrong f h)

-- the two lines and what stands behind them, as the code has them
module _ (text first rest second more : List ℕ) (f : first ≡ line text) (r : rest ≡ after_line text) (s : second ≡ line rest) (m : more ≡ after_line rest) (short : length text ≤ 65536) (xs : List ℕ) (a : amounts (words first) ≡ Ok xs) (n : ℕ) (is : n ≡ length xs) (given : List ℕ) (b : entries n (words second) ≡ Ok given) where
  amounts_of_text : amounts (words (line text)) ≡ Ok xs
  amounts_of_text = ap (λ l. amounts (words l)) (sym f) ∙ a

  entries_of_text : entries (length xs) (words (line (after_line text))) ≡ Ok given
  entries_of_text = ap₂ (λ k l. entries k (words l)) (sym is) (sym (s ∙ ap line r)) ∙ b

  ended_by : (ws : List (List ℕ)) (c : Combination) (t : Bool) → t ≡ ltb 0 (length ws) → ended ws c ≡ cond t (Err Extra) (Ok c)
  ended_by [] c t e = grind (arith, nat_tests)
  ended_by (w ∷ ws) c t e = grind (arith, nat_tests)

  -- t says whether words stand behind the two lines
  pub judged_by : (t : Bool) → t ≡ ltb 0 (length (words more)) → judged text ≡ cond t (Err Extra) (Ok (combination xs given))
  judged_by t e =
      let behind : ended (words (after_line (after_line text))) (combination xs given) ≡ cond t (Err Extra) (Ok (combination xs given)) = ap (λ l. ended (words l) (combination xs given)) (sym (m ∙ ap after_line r)) ∙ ended_by (words more) (combination xs given) t e in
      rw (le-leb (length text) 65536 short, amounts_of_text, entries_of_text, behind)

-- what the code makes of a table is the combination
pub combination_is : (xs given : List ℕ) (e : ℕ → ℕ → ℕ) (k n f l u : ℕ) → k ≡ length xs → n ≡ length xs → f ≡ form e xs → l ≡ lower (form e xs) → u ≡ upper (form e xs) → ((i j : ℕ) → e i j ≡ filled k given i j) → combination xs given ≡ record { members = n; form = f; low = l; high = u }
combination_is xs given e k n f l u z a b c d h =
    let same : form e xs ≡ form (filled (length xs) given) xs = form_same e (filled k given) xs h ∙ ap (λ v. form (filled v given) xs) z in
    cc
