use Rattle.std.proofs.Common.{◌≡◌, ℕ, ◌+◌, ◌-◌, ◌*◌, ◌^◌, min, true, ◌&&◌, leb, List, ◌∷◌, get_or, drop, sym, refl, ap, ◌∙◌, arith}
use Rattle.std.proofs.lemmas.List.{at_drop_more}
use Rattle.combination.specs.Reading.{digits, number_behind}
use Rattle.combination.proofs.Digits.{capped}
use Rattle.combination.proofs.text.number.Goals as goal

digit : (b : ℕ) (bs : List ℕ) → (leb 48 b && leb b 57) ≡ true → digits (b ∷ bs) ≡ digits bs
digit b bs e = rw e refl

pub loop-b-preserved : goal.loop-b-preserved
loop-b-preserved c =
    let w = c.args.word.now in
    let i = c.loop-b.b-index in
    let b = get_or w i 0 in
    let n = c.loop-b.n in
    let limit = 2 ^ 32 - 1 in
    let value : c.saturating_add-n.result ≡ min (10 * c.loop-b.n + (get_or c.args.word.now c.loop-b.b-index 0 - 48)) (2 ^ 32 - 1) = omega (arith, c.saturating_mul.ensures, c.saturating_add-n.ensures) in (
      c.loop-b.invariant.0 ∙ at_drop_more digits w i 0 c.loop-b-test.true ∙ digit b (drop (i + 1) w) (sym c.is_ascii_digit.ensures.value ∙ c.if-not-is_ascii_digit.false),
      c.loop-b.invariant.1
          ∙ at_drop_more (λ ds. min (number_behind n ds) limit) w i 0 c.loop-b-test.true
          ∙ sym (capped limit (10 * n + (b - 48)) (drop (i + 1) w))
          ∙ ap (λ v. min (number_behind v (drop (i + 1) w)) limit) (sym value),
      omega (arith, value),
    )
