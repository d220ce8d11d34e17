-- Which refusal applies to a call, and what then stands. Assumes nothing.
use Rattle.std.proofs.Common.{◌≡◌, ℕ, ◌<◌, ◌≤◌, length, None, vec_items, vec_len, Option, sym, ap, ◌∙◌, arith}
use Rattle.std.proofs.lemmas.List.{length-map}
use Rattle.std.proofs.lemmas.Bool.Decides.{nat_tests}
use Rattle.lines.specs.declared.line.Line.{Line}
use Rattle.tables.specs.Replacing.{after}
use Rattle.filing.specs.declared.filing.Filing.{Filing}
use Rattle.filing.specs.Machine.{Standing, strike_refusal}
use Rattle.filing.specs.Stands.{stands}

-- as many lines stand as the filing holds
pub as_many : (f : Filing) → length (stands f).lines ≡ vec_len f.lines
as_many f = length-map (vec_items f.lines) (λ (l : Line). l.fields) ∙ sym f.lines.ok.0

pub strike_one : (st : Standing) (number : ℕ) → 0 < number → number ≤ length st.lines → strike_refusal st number ≡ None
strike_one st number g h = grind (arith, nat_tests)

-- what stands after a call that is not refused
pub changes : (refusal : Option (ℕ × ℕ × ℕ)) (st new : Standing) → refusal ≡ None → new ≡ after refusal st new
changes refusal st new h = sym (ap (λ o. after o st new) h)
