-- A charge of totals means the exact charge of the lines. Assumes nothing.
use Rattle.std.specs.Prelude.{◌≡◌, ℕ, ◌-◌, ◌*◌, ◌/◌, max, true, List, []}
use Rattle.std.proofs.Common.{ap, ap₂, ◌∙◌, arith}
use Rattle.std.proofs.Math.Path.{fun_ext}
use Rattle.std.proofs.Math.Nat.{mul-sub}
use Rattle.roots.specs.Cells.{identity}
use Rattle.roots.specs.Form.{form}
use Rattle.roots.specs.Root.{lower, upper}
use Rattle.charges.specs.Leaves.{difference, rate, square_root}
use Rattle.charges.specs.Meaning.{means}
use Rattle.charges.specs.Quotients.{over}
use Rattle.lines.specs.declared.fields.Fields.{Fields}
use Rattle.lines.specs.Totals.{total}
use Rattle.lines.specs.Weights.{square}
use Rattle.kinds.specs.Exact.{in_unit, share, exactly, amounts, root_of_squares}
use Rattle.kinds.specs.Diagonal.{squares_form}
use Rattle.kinds.specs.Finer.{Linear}

-- equal in every unit
pub same_means : (d d' u u' : ℕ → ℕ) (w : ℕ) → ((k : ℕ) → d k ≡ d' k) → ((k : ℕ) → u k ≡ u' k) → means d u w [] ≡ means d' u' w []
same_means d d' u u' w p q = ap₂ (λ (a b : ℕ → ℕ). means a b w []) (fun_ext p) (fun_ext q)

amount_is : (t k n a : ℕ) → a ≡ k * t → k * t * n ≡ n * a
amount_is t k n a e = omega (arith, ap (λ v. n * v) e)

pub rate_exactly : (f : List Fields → ℕ) → Linear f → (n d t : ℕ) (ls : List Fields) → t ≡ f ls → rate t n d ≡ exactly 1 (λ s. share (n * f s) d) ls
rate_exactly f h n d t ls e =
    ap (λ v. rate v n d) e
    ∙ same_means _ _ _ _ 1 (λ k. ap (λ v. v / d) (amount_is (f ls) k n (f (in_unit k ls)) (h k ls))) (λ k. ap (λ v. over v d) (amount_is (f ls) k n (f (in_unit k ls)) (h k ls)))

whole_down : (n : ℕ) → n ≡ n / 1
whole_down n = omega arith

whole_up : (n : ℕ) → n ≡ over n 1
whole_up n = omega arith

-- what is lost less what is gained, of a number of lines
pub difference_exactly : (f : List Fields → ℕ) → Linear f → (losses gains : ℕ) (ls : List Fields) → losses - gains ≡ f ls → difference losses gains ≡ exactly 0 (λ s. share (f s) 1) ls
difference_exactly f h losses gains ls e =
    let at_unit : (k : ℕ) → k * losses - k * gains ≡ f (in_unit k ls) = λ k. omega (arith, mul-sub k losses gains, ap (λ v. k * v) e, h k ls) in
    same_means _ _ _ _ 0 (λ k. at_unit k ∙ whole_down (f (in_unit k ls))) (λ k. at_unit k ∙ whole_up (f (in_unit k ls)))

pub root_exactly : (kind t : ℕ) (ls : List Fields) → square kind ≡ true → ((k : ℕ) → k * k * t ≡ total kind 0 (in_unit k ls)) → square_root t ≡ root_of_squares kind ls
root_exactly kind t ls sq h =
    let at_unit : (k : ℕ) → 100 * (k * k * t) ≡ form identity (amounts kind (in_unit k ls)) = λ k. ap (λ v. 100 * v) (h k) ∙ squares_form kind sq (in_unit k ls) in
    same_means _ _ _ _ 1 (λ k. ap lower (at_unit k)) (λ k. ap upper (at_unit k))

-- the larger of two
pub larger_exactly : (f g : List Fields → ℕ) (d x y : ℕ → ℕ) (ls : List Fields) → ((k : ℕ) → d k ≡ max (x k) (y k)) → ((k : ℕ) → x k ≡ f (in_unit k ls) / 1) → ((k : ℕ) → y k ≡ g (in_unit k ls) / 1) → means d d 0 [] ≡ exactly 0 (λ s. share (max (f s) (g s)) 1) ls
larger_exactly f g d x y ls h p q =
    let at_unit : (k : ℕ) → d k ≡ max (f (in_unit k ls)) (g (in_unit k ls)) = λ k. omega (arith, h k, p k, q k) in
    same_means _ _ _ _ 0 (λ k. at_unit k ∙ whole_down _) (λ k. at_unit k ∙ whole_up _)
