-- Working out: the refusal that applies, and the figures. Assumes nothing.
use Rattle.std.specs.Prelude.{◌≡◌, ℕ, cond, ◌&&◌, List, Some, None, Ok, Err, Option, Result, nat_le}
use Rattle.std.specs.Option.{option_map}
use Rattle.charges.specs.Meaning.{first_large}
use Rattle.charges.specs.Worked.{figure, Between}
use Rattle.choice.specs.Basis.{Basis, Chosen}
use Rattle.choice.specs.Figured.{all_figures, all_limited, AllWorked}
use Rattle.filing.specs.declared.fault.FilingFault.{FilingFault}
use Rattle.working.specs.declared.figure.Figure.{Figure}
use Rattle.filing.specs.Faults.{shown}
use Rattle.filing.specs.Machine.{Standing}

abbrev pub number_of : Figure → ℕ
number_of f = f.number

-- there are 28 figures
abbrev pub figure_numbered : ℕ → Option ℕ
figure_numbered n = cond (nat_le 1 n && nat_le n 28) (Some n) None

-- what a working out stands on
abbrev pub basis_of : Standing → Basis
basis_of st = record { lines = st.lines; tables = st.tables }

module _ (m : Chosen) (st : Standing) where
  -- the lowest figure that is too large
  abbrev pub work_out_refusal : Option (ℕ × ℕ × ℕ)
  work_out_refusal = option_map (λ f. (10, f, 0)) (first_large (all_limited m (basis_of st)))

  -- all figures, or the place as before
  abbrev pub Worked : List (ℕ × ℕ) → List (ℕ × ℕ) → Result (Unit {0}) FilingFault → Type 0
  Worked before after (Ok u) = AllWorked m (basis_of st) after
  Worked before after (Err e) = after ≡ before

  -- one figure, or the refusal of working out all
  abbrev pub OneWorked : ℕ → Result (ℕ × ℕ) FilingFault → Type 0
  OneWorked f (Ok p) = (work_out_refusal ≡ None) × Between (figure (all_figures m (basis_of st)) f) p.0 p.1
  OneWorked f (Err e) = work_out_refusal ≡ Some (shown e)
