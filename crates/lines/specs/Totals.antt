-- Sums over a list of lines, by kind and class. Assumes nothing.
use Rattle.std.specs.Prelude.{ℕ, cond, ◌&&◌, List, sum_by, ◌==◌}
use Rattle.lines.specs.declared.fields.Fields.{Fields}
use Rattle.lines.specs.Weights.{weight}

-- a number of a line, if it is of the kind and class
abbrev pub part : (Fields → ℕ) → ℕ → ℕ → Fields → ℕ
part f kind class l = cond (l.kind == kind && l.class == class) (f l) 0

-- a number of each line of the kind and class, added
abbrev pub over : (Fields → ℕ) → ℕ → ℕ → List Fields → ℕ
over f kind class ls = sum_by (part f kind class) ls

-- the weights
abbrev pub total : ℕ → ℕ → List Fields → ℕ
total = over weight

-- the second amounts
abbrev pub afters : ℕ → ℕ → List Fields → ℕ
afters = over (λ l. l.second)

-- how many lines
abbrev pub standing : ℕ → ℕ → List Fields → ℕ
standing = over (λ _. 1)

-- a number of each line of the kind, of whatever class, added
abbrev pub of_kind : (Fields → ℕ) → ℕ → List Fields → ℕ
of_kind f kind ls = sum_by (λ l. cond (l.kind == kind) (f l) 0) ls

abbrev pub whole_of : ℕ → List Fields → ℕ
whole_of = of_kind weight

abbrev pub kind_count : ℕ → List Fields → ℕ
kind_count = of_kind (λ _. 1)
