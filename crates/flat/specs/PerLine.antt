-- A choice of flat charges by how many lines stand. Assumes nothing.
use Rattle.std.specs.Prelude.{ℕ, List, [], ◌∷◌}
use Rattle.roots.specs.Form.{sum}
use Rattle.charges.specs.Meaning.{Meaning}
use Rattle.lines.specs.declared.fields.Fields.{Fields}
use Rattle.lines.specs.Totals.{standing}
use Rattle.choice.specs.Basis.{Chosen}
use Rattle.flat.specs.Flats.{flat}

-- as many units as lines of a kind stand
abbrev pub lines_of : ℕ → List Fields → Meaning
lines_of kind ls = flat (sum 16 (λ c. standing kind c ls)) (sum 16 (λ c. standing kind c ls))

abbrev pub fixed : Meaning
fixed = flat 100 100

abbrev pub per_line : Chosen
per_line = record {
  market = λ b. lines_of 1 b.lines ∷ lines_of 2 b.lines ∷ lines_of 3 b.lines ∷ lines_of 4 b.lines ∷ lines_of 5 b.lines ∷ lines_of 6 b.lines ∷ [];
  life = λ b. lines_of 7 b.lines ∷ lines_of 8 b.lines ∷ lines_of 9 b.lines ∷ lines_of 10 b.lines ∷ lines_of 11 b.lines ∷ lines_of 12 b.lines ∷ lines_of 13 b.lines ∷ [];
  health = λ b. lines_of 14 b.lines ∷ lines_of 15 b.lines ∷ lines_of 16 b.lines ∷ [];
  non_life = λ b. lines_of 17 b.lines ∷ lines_of 18 b.lines ∷ [];
  basic = λ b. fixed ∷ lines_of 20 b.lines ∷ fixed ∷ fixed ∷ fixed ∷ [];
}
