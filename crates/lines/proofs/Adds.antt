-- Sums that a loop over lines has added up. Assumes nothing.
use Rattle.std.proofs.Common.{◌≡◌, ℕ, ◌+◌, ◌*◌, ◌^◌, ◌<◌, ◌≤◌, Bool, true, false, cond, ◌&&◌, eqb, List, length, get_or, take, sym, ap, ◌∙◌, subst, mul-le-mul_right, arith, length-take}
use Rattle.std.proofs.lemmas.List.{map_more, take_all}
use Rattle.std.proofs.lemmas.List.Sums.{sum_by_push}
use Rattle.roots.specs.Form.{sum}
use Rattle.roots.proofs.Sums.{sum_eq}
use Rattle.lines.specs.declared.fields.Fields.{Fields}
use Rattle.lines.specs.declared.line.Line.{Line}
use Rattle.lines.specs.declared.sums.Sum.{Sum}
use Rattle.lines.specs.declared.sums.Sums.{Sums}
use Rattle.lines.specs.Cells.{none, cell, more}
use Rattle.lines.specs.Held.{plain}
use Rattle.lines.specs.Totals.{part, over}
use Rattle.lines.specs.Weights.{weight}
use Rattle.lines.proofs.Bounds.{plain_small}
use Rattle.lines.proofs.Cells.{cell_le}
use Rattle.lines.proofs.Classes.{classes_le}

-- in the cells, g is the sum of f over lines
abbrev pub SumOf : (Sum → ℕ) → (Fields → ℕ) → Sums → List Line → Type 0
SumOf g f s ls = (kind class : ℕ) → g (cell s kind class) ≡ over f kind class (plain ls)

pub record Adds (s : Sums) (ls : List Line) : Type 0 where
  pub firsts : SumOf (λ x. x.first) weight s ls
  pub seconds : SumOf (λ x. x.second) (λ l. l.second) s ls
  pub counts : SumOf (λ x. x.count) (λ _. 1) s ls

-- all lines
pub adds_all : {s : Sums} (ls : List Line) (i : ℕ) → length ls ≤ i → Adds s (take i ls) → Adds s ls
adds_all {s = s} ls i h a = subst (Adds s) (take_all _ _ h) a

-- the cells with one line more
abbrev pub Grown : Sums → Sums → Fields → Type 0
Grown old new l = (k c : ℕ) → cell new k c ≡ cond (eqb l.kind k && eqb l.class c) (more (cell old k c) l) (cell old k c)

module _ (g : Sum → ℕ) (f : Fields → ℕ) (grows : (x : Sum) (l : Fields) → g (more x l) ≡ g x + f l) where
  one_more : (b : Bool) (x : Sum) (l : Fields) → g (cond b (more x l) x) ≡ g x + cond b (f l) 0
  one_more true x l = grows x l
  one_more false x l = omega arith

  pub sum_more : (old new : Sums) (ls : List Line) (i : ℕ) (l : Line) → i < length ls → l ≡ get_or ls i l → SumOf g f old (take i ls) → Grown old new l.fields → SumOf g f new (take (i + 1) ls)
  sum_more old new ls i l h e s grown k c =
      let more : over f k c (plain (take (i + 1) ls)) ≡ over f k c (plain (take i ls)) + part f k c l.fields =
      ap (over f k c) (map_more (λ (l : Line). l.fields) ls i l h) ∙ sum_by_push (part f k c) (plain (take i ls)) (get_or ls i l).fields
      ∙ ap (λ (x : Line). over f k c (plain (take i ls)) + part f k c x.fields) (sym e)
      in
      ap g (grown k c) ∙ one_more (eqb l.fields.kind k && eqb l.fields.class c) (cell old k c) l.fields
      ∙ ap (λ (n : ℕ). n + part f k c l.fields) (s k c) ∙ sym more

module _ (g : Sum → ℕ) (f : Fields → ℕ) (nothing : g none ≡ 0) (m : ℕ) (most : (l : Line) → f l.fields ≤ m) where
  -- the classes of a kind added, of few lines
  pub row_le : (s : Sums) (ls : List Line) (n : ℕ) → SumOf g f s ls → length ls ≤ n → (k : ℕ) → sum 16 (λ c. g (cell s k c)) ≤ n * m
  row_le s ls n e few k =
      let same = sum_eq 16 (λ c. g (cell s k c)) (λ c. over f k c (plain ls)) (e k) in
      omega (arith, same, classes_le f k m (λ l _. most l) ls, mul-le-mul_right m few)

  -- a cell has room for one line more
  pub room : (s : Sums) (ls : List Line) (i : ℕ) → SumOf g f s (take i ls) → i ≤ 128 → m ≤ 2 ^ 56 → (l : Line) (k c : ℕ) → g (cell s k c) + f l.fields < 2 ^ 64
  room s ls i e few small l k c =
      let front : length (take i ls) ≤ 128 = simp length-take (omega arith) in
      omega (arith, cell_le g nothing s k c, row_le s (take i ls) 128 e front k, most l)

-- the classes of kind 25 added
pub plain_row : (s : Sums) (ls : List Line) → SumOf (λ x. x.first) weight s ls → length ls ≤ 128 → sum 16 (λ c. (cell s 25 c).first) ≤ 2 ^ 40
plain_row s ls e few =
    let same = sum_eq 16 (λ c. (cell s 25 c).first) (λ c. over weight 25 c (plain ls)) (e 25) in
    omega (arith, same, classes_le weight 25 4294967295 plain_small ls, mul-le-mul_right 4294967295 few)
