-- The lines of business as a list of charges. Assumes nothing.
use Rattle.std.specs.Prelude.{◌≡◌, ℕ, zero, suc, ◌+◌, ◌*◌, ◌<◌, List, [], ◌∷◌, map, length, slice_index, slice_index_or, refl}
use Rattle.std.proofs.Common.{sym, ap, ap₂, ◌∙◌, arith}
use Rattle.std.proofs.lemmas.List.{length-map, get_or-map}
use Rattle.roots.specs.Form.{added}
use Rattle.roots.specs.Root.{ceiling_root}
use Rattle.charges.specs.Leaves.{rate}
use Rattle.charges.specs.Meaning.{Meaning, widths}
use Rattle.lines.specs.declared.fields.Fields.{Fields}
use Rattle.lines.specs.Totals.{total}
use Rattle.kinds.specs.declared.businesses.Businesses.{Businesses}
use Rattle.kinds.specs.Means.{BasicParts, businesses, market_means, life_means, health_means, basic_parts}
use Rattle.kinds.specs.Ours.{businesses_from}
use Rattle.kinds.specs.Finer.{total_linear}
use Rattle.kinds.specs.Matches.{rate_exactly}

-- every line of business has the width 1
widths_ones : (vs : List ℕ) → added (widths (map (λ v. rate v 3 10000) vs)) ≡ length vs
widths_ones [] = refl
widths_ones (v ∷ vs) = omega (arith, widths_ones vs)

pub widths_fifteen : (b : Businesses) → added (widths (businesses b)) ≡ 15
widths_fifteen b = widths_ones b.volumes ∙ b.full

pub count_fifteen : (b : Businesses) → length (businesses b) ≡ 15
count_fifteen b = length-map b.volumes _ ∙ b.full

same_widths : (vs us : List ℕ) → length vs ≡ length us → widths (map (λ v. rate v 3 10000) vs) ≡ widths (map (λ v. rate v 3 10000) us)
same_widths [] [] h = refl
same_widths [] (u ∷ us) h = absurd (let z : ⊥ = omega arith in z)
same_widths (v ∷ vs) [] h = absurd (let z : ⊥ = omega arith in z)
same_widths (v ∷ vs) (u ∷ us) h = ap (λ (l : List ℕ). 1 ∷ l) (same_widths vs us (omega arith))

pub widths_alike : (a b : Businesses) → widths (businesses a) ≡ widths (businesses b)
widths_alike a b = same_widths a.volumes b.volumes (a.full ∙ sym b.full)

-- totals of the classes from c on mean the lines of business from c on
pub businesses_are : (n c : ℕ) (vs : List ℕ) (ls : List Fields) → length vs ≡ n → ((k : ℕ) → k < n → slice_index vs k ≡ total 17 (c + k) ls) → map (λ v. rate v 3 10000) vs ≡ businesses_from n c ls
businesses_are zero c [] ls h at_k = refl
businesses_are zero c (v ∷ vs) ls h at_k = absurd (let z : ⊥ = omega arith in z)
businesses_are (suc n) c [] ls h at_k = absurd (let z : ⊥ = omega arith in z)
businesses_are (suc n) c (v ∷ vs) ls h at_k =
    let first : c + 0 ≡ c = omega arith in
    ap₂ ◌∷◌
    (rate_exactly (total 17 c) (total_linear 17 c refl) 3 10000 v ls (at_k 0 (omega arith) ∙ ap (λ d. total 17 d ls) first))
    (businesses_are n (suc c) vs ls (omega arith) (λ k b. at_k (suc k) (omega arith) ∙ ap (λ d. total 17 d ls) (let e : c + suc k ≡ suc c + k = omega arith in e)))

-- the charge of one line of business
pub business_at : (vs : List ℕ) (i : ℕ) (d : Meaning) → i < length vs → slice_index_or (map (λ v. rate v 3 10000) vs) i d ≡ rate (slice_index vs i) 3 10000
business_at vs i d h = get_or-map (λ v. rate v 3 10000) vs i 0 d h

-- the widths of the members of the basic SCR depend on no amount
pub basic_alike : (a b : BasicParts) → widths (basic_parts a) ≡ widths (basic_parts b)
basic_alike a b =
    let volumes = λ (m : BasicParts). m.1.1.1.1.0.members.0.members in
    ap₂ (λ (n w : ℕ). (market_means a.0).width ∷ 1 ∷ (life_means a.1.1.0).width ∷ (health_means a.1.1.1.0).width ∷ (1 + ceiling_root 2 * ((1 + ceiling_root n * w) + (1 + 0))) ∷ [])
    (count_fifteen (volumes a) ∙ sym (count_fifteen (volumes b)))
    (widths_fifteen (volumes a) ∙ sym (widths_fifteen (volumes b)))
