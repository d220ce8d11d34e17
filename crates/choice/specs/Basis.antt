-- What a working out stands on, and what a choice of charges means. Assumes nothing.
use Rattle.std.specs.Prelude.{◌≡◌, ℕ, ◌<◌, ◌≤◌, List, ◌++◌, length, Some, None, Option}
use Rattle.charges.specs.Meaning.{Meaning}
use Rattle.lines.specs.declared.fields.Fields.{Fields}
use Rattle.lines.specs.declared.line.Line.{Line}
use Rattle.lines.specs.Held.{plain}
use Rattle.tables.specs.declared.named.NamedTables.{NamedTables}
use Rattle.tables.specs.Standing.{in_order}
use Rattle.choice.specs.declared.given.Given.{Given}

-- lines, and tables in the order of their numbers
pub record Basis : Type 0 where
  pub lines : List Fields
  pub tables : List (ℕ → ℕ → ℕ)

abbrev pub on : List Fields → NamedTables → Basis
on ls ts = record { lines = ls; tables = in_order ts }

-- of the values in the code
abbrev pub basis : Given → Basis
basis g = on (plain g.lines.now) g.tables

-- at most 128 lines are taken
abbrev pub GivenMade : List Line → NamedTables → Option Given → Type 0
GivenMade ls ts None = 128 < length ls
GivenMade ls ts (Some g) = (length ls ≤ 128) × (basis g ≡ on (plain ls) ts)

-- the charges of figures 1 to 6, 7 to 13, 14 to 16, 17 and 18, and of 19 to 23, for all lines and tables
pub record Chosen : Type 0 where
  pub market : Basis → List Meaning
  pub life : Basis → List Meaning
  pub health : Basis → List Meaning
  pub non_life : Basis → List Meaning
  pub basic : Basis → List Meaning

-- figures 1 to 18
abbrev pub shown : Chosen → Basis → List Meaning
shown m b = m.market b ++ m.life b ++ m.health b ++ m.non_life b
