-- Whether a life line stands. Assumes nothing.
use Rattle.std.proofs.Common.{◌≡◌, ℕ, ◌+◌, cond, eqb, ◌≢◌, List, ◌∙◌, arith}
use Rattle.std.proofs.lemmas.Bool.Decides.{nat_tests}
use Rattle.roots.specs.Form.{sum}
use Rattle.roots.proofs.Sums.{sum_eq}
use Rattle.lines.specs.declared.fields.Fields.{Fields}
use Rattle.lines.specs.declared.totals.Totals.{Totals}
use Rattle.lines.specs.Tally.{Tally, count_of}
use Rattle.lines.specs.Totals.{standing}
use Rattle.choice.specs.Beside.{life_lines}

-- numbers of the kinds 7 to 13, added
seven : (f : ℕ → ℕ) (a b c d e g h : ℕ) → a ≡ f 7 → b ≡ f 8 → c ≡ f 9 → d ≡ f 10 → e ≡ f 11 → g ≡ f 12 → h ≡ f 13 → a + b + c + d + e + (g + h) ≡ sum 7 (λ i. f (7 + i))
seven f a b c d e g h p q r s t u v = omega arith

-- how many lines of a kind totals hold
abbrev lines_of : Totals → ℕ → ℕ
lines_of t kind = sum 16 (λ c. count_of t kind c)

pub life_lines_are : (t : Totals) (ls : List Fields) → Tally t ls → (a b c d e g h : ℕ) → a ≡ lines_of t 7 → b ≡ lines_of t 8 → c ≡ lines_of t 9 → d ≡ lines_of t 10 → e ≡ lines_of t 11 → g ≡ lines_of t 12 → h ≡ lines_of t 13 → a + b + c + d + e + (g + h) ≡ life_lines ls
life_lines_are t ls tally a b c d e g h p q r s u v w =
    seven (lines_of t) a b c d e g h p q r s u v w
    ∙ sum_eq 7 (λ i. lines_of t (7 + i)) (λ i. sum 16 (λ c. standing (7 + i) c ls)) (λ i. sum_eq 16 _ _ (tally.counts (7 + i)))

pub none_stand : (n : ℕ) → n ≡ 0 → ◌≡◌ {A = ℕ} 10000 (cond (eqb n 0) 10000 20000)
none_stand n h = grind (arith, nat_tests)

pub some_stand : (n : ℕ) → n ≢ 0 → ◌≡◌ {A = ℕ} 20000 (cond (eqb n 0) 10000 20000)
some_stand n h = grind (arith, nat_tests)
