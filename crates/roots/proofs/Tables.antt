-- A table by what it holds: it is sound, and the steps of its form. Assumes nothing.
use Rattle.std.proofs.Common.{◌≡◌, ℕ, ◌+◌, ◌-◌, ◌*◌, ◌^◌, ◌<◌, ◌≤◌, List, length, get_or, take, drop, ap, ◌∙◌, mul-le-mul, arith, length-take, length-drop}
use Rattle.std.proofs.lemmas.List.{get_or-take, get_or-drop}
use Rattle.std.specs.List.{sum_by, zip}
use Rattle.std.proofs.lemmas.Bool.Decides.{nat_tests}
use Rattle.roots.specs.declared.table.Table.{Table}
use Rattle.roots.specs.Cells.{entry}
use Rattle.roots.specs.Form.{sum, at, Sound}
use Rattle.roots.specs.Held.{correlation}
use Rattle.roots.proofs.Sums.{sum_below, sum_most, sum_zip}

pub table_sound : (t : Table) → Sound (correlation t)
table_sound t = record { symmetric = t.symmetric; diagonal = t.diagonal; small = t.small }

inside : (cells : List ℕ) (r c : ℕ) → r < 16 → c < 16 → get_or cells (r * 16 + c) 0 ≡ entry cells r c
inside cells r c a b = grind (arith, nat_tests)

-- the cells of row r before its diagonal
abbrev pub row_of : List ℕ → ℕ → List ℕ
row_of cells r = take (r * 16 + r - r * 16) (drop (r * 16) cells)

row_at : (cells : List ℕ) (r c : ℕ) → r < 16 → c < r → at (row_of cells r) c ≡ entry cells r c
row_at cells r c a b =
    let few : c < r * 16 + r - r * 16 = omega arith in
    get_or-take (r * 16 + r - r * 16) (drop (r * 16) cells) c 0 few ∙ get_or-drop (r * 16) cells c 0 ∙ inside cells r c a (omega arith)

row_length : (cells : List ℕ) (r : ℕ) → length cells ≡ 256 → r < 16 → length (row_of cells r) ≡ r
row_length cells r h a = simp (length-take, length-drop) (omega arith)

-- the row times the amounts, added
pub row_sum : (t : Table) (r : ℕ) (xs : List ℕ) → length t.cells ≡ 256 → r < 16 → r < length xs → sum_by (λ p. p.0 * p.1) (zip (row_of t.cells r) xs) ≡ sum r (λ c. correlation t r c * at xs c)
row_sum t r xs h a b =
    let many = row_length t.cells r h a in
    sum_zip (row_of t.cells r) xs (omega (arith, many))
    ∙ ap (λ n. sum n (λ c. at (row_of t.cells r) c * at xs c)) many
    ∙ sum_below r _ _ (λ c l. ap (λ v. v * at xs c) (row_at t.cells r c a l))

pub row_bound : (t : Table) (r : ℕ) (xs : List ℕ) → ((i : ℕ) → at xs i < 16777216) → sum r (λ c. correlation t r c * at xs c) ≤ r * (100 * 2 ^ 24)
row_bound t r xs s =
    sum_most r (100 * 2 ^ 24) _ (λ c l.
    let most : at xs c ≤ 16777216 = omega (arith, s c) in
    mul-le-mul (t.small r c) most)

-- what one member adds to the form
pub member_bound : (x b r : ℕ) → x < 16777216 → b ≤ r * (100 * 2 ^ 24) → x * (100 * x + 2 * b) ≤ (2 * r + 1) * (100 * 2 ^ 48)
member_bound x b r s h =
    let most : x ≤ 16777216 = omega arith in
    let row : 100 * x + 2 * b ≤ (2 * r + 1) * (100 * 2 ^ 24) = omega arith in
    let k = mul-le-mul most row in
    omega arith
