-- The sums of a kind and a class: 16 cells for each of 32 kinds. Assumes nothing.
use Rattle.std.specs.Prelude.{ℕ, ◌+◌, ◌*◌, cond, ◌&&◌, nat_lt, slice_index_or}
use Rattle.lines.specs.declared.sums.Sum.{Sum}
use Rattle.lines.specs.declared.sums.Sums.{Sums}
use Rattle.lines.specs.declared.fields.Fields.{Fields}
use Rattle.lines.specs.Weights.{weight}

-- of no lines
abbrev pub none : Sum
none = record { first = 0; second = 0; count = 0 }

-- with one line more
abbrev pub more : Sum → Fields → Sum
more s l = record { first = s.first + weight l; second = s.second + l.second; count = s.count + 1 }

abbrev pub cell : Sums → ℕ → ℕ → Sum
cell s kind class = cond (nat_lt kind 32 && nat_lt class 16) (slice_index_or s.cells (kind * 16 + class) none) none
