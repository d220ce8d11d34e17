-- The exact charge of each kind of line, and its two results in every unit. Assumes nothing.
use Rattle.std.specs.Prelude.{ℕ, ◌+◌, ◌-◌, ◌*◌, ◌/◌, max, ◌&&◌, List, [], map, filter, ◌==◌}
use Rattle.roots.specs.Cells.{identity}
use Rattle.roots.specs.Form.{sum, form}
use Rattle.roots.specs.Root.{lower, upper}
use Rattle.charges.specs.Meaning.{Meaning, means}
use Rattle.charges.specs.Quotients.{over}
use Rattle.lines.specs.declared.fields.Fields.{Fields}
use Rattle.lines.specs.Totals.{total, afters}

-- every amount multiplied by k
abbrev pub finer : ℕ → Fields → Fields
finer k l = record { kind = l.kind; class = l.class; rate = l.rate; first = k * l.first; second = k * l.second }

abbrev pub in_unit : ℕ → List Fields → List Fields
in_unit k ls = map (finer k) ls

-- an amount, and what it is divided by
pub record Exact : Type 0 where
  pub amount : ℕ
  pub by : ℕ

abbrev pub share : ℕ → ℕ → Exact
share a b = record { amount = a; by = b }

-- an exact charge in a unit k times finer: the amounts multiplied first, one division last
abbrev pub exactly : ℕ → (List Fields → Exact) → List Fields → Meaning
exactly width charge ls = means (λ k. (charge (in_unit k ls)).amount / (charge (in_unit k ls)).by) (λ k. over (charge (in_unit k ls)).amount (charge (in_unit k ls)).by) width []

-- the total drop, 0 where it is negative: an asset drops from its first amount to its second, a liability from second to first
abbrev pub fall : ℕ → ℕ → ℕ → List Fields → ℕ
fall kind asset liability ls = (total kind asset ls + afters kind liability ls) - (afters kind asset ls + total kind liability ls)

-- 1: the larger of the drops up and down
abbrev pub interest : List Fields → Exact
interest ls = share (max (fall 1 1 3 ls) (fall 1 2 4 ls)) 1

-- 2: 32% of global and 45% of other equity
abbrev pub global_equity : List Fields → Exact
global_equity ls = share (32 * total 2 1 ls) 100

abbrev pub other_equity : List Fields → Exact
other_equity ls = share (45 * total 2 2 ls) 100

-- 3: 20% of the value
abbrev pub property : List Fields → Exact
property ls = share (20 * total 3 0 ls) 100

-- 4: value × duration × factor, of all classes
abbrev pub spread : List Fields → Exact
spread ls = share (1 * sum 16 (λ c. total 4 c ls)) 1000000

-- 6: 20% of the distance between long and short
abbrev pub currency : List Fields → Exact
currency ls = share (20 * ((total 6 1 ls - total 6 2 ls) + (total 6 2 ls - total 6 1 ls))) 100

-- 7 to 13: the drop
abbrev pub life : ℕ → List Fields → Exact
life kind ls = share (fall kind 1 2 ls) 1

-- 14 to 16, and 20: volume × rate
abbrev pub volume : ℕ → List Fields → Exact
volume kind ls = share (1 * total kind 0 ls) 10000

-- 17: three times volume × rate of a line of business
abbrev pub business : ℕ → List Fields → Exact
business class ls = share (3 * total 17 class ls) 10000

-- the first amounts of a kind's lines without class
abbrev pub amounts : ℕ → List Fields → List ℕ
amounts kind ls = map (λ l. l.first) (filter (λ l. (l.kind == kind) && l.class == 0) ls)

-- 5 and 18: the root of the squares, which is the form with no correlation
abbrev pub root_of_squares : ℕ → List Fields → Meaning
root_of_squares kind ls = means (λ k. lower (form identity (amounts kind (in_unit k ls)))) (λ k. upper (form identity (amounts kind (in_unit k ls)))) 1 []
