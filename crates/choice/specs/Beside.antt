-- What the formula takes from the lines beside its charges. Assumes nothing.
use Rattle.std.specs.Prelude.{ℕ, ◌+◌, ◌*◌, cond, List, ◌==◌}
use Rattle.roots.specs.Form.{sum}
use Rattle.charges.specs.declared.beside.Beside.{Beside}
use Rattle.lines.specs.declared.fields.Fields.{Fields}
use Rattle.lines.specs.Totals.{total, standing}

-- the earned premiums or the provisions of life, non-life and health from a class on: 3% and twice 2%
abbrev pub percentages : ℕ → List Fields → ℕ
percentages class ls = 3 * total 25 class ls + 2 * total 25 (class + 1) ls + 2 * total 25 (class + 2) ls

-- how many lines of kinds 7 to 13 stand
abbrev pub life_lines : List Fields → ℕ
life_lines ls = sum 7 (λ i. sum 16 (λ c. standing (7 + i) c ls))

-- 10,000 units, or 20,000 where a line of kinds 7 to 13 stands
abbrev pub least_capital : List Fields → ℕ
least_capital ls = cond (life_lines ls == 0) 10000 20000

-- premiums from class 1 on, provisions from class 4 on
abbrev pub beside : List Fields → Beside
beside ls = record { premiums = percentages 1 ls; provisions = percentages 4 ls; least = least_capital ls }
