-- The charges without members keep the terms. Assumes nothing.
use Rattle.std.specs.Prelude.{ℕ, ◌*◌, ◌<◌}
use Rattle.std.proofs.Math.Nat.{mul-sub}
use Rattle.std.proofs.Common.{arith}
use Rattle.roots.proofs.RootLaws.{lower_le_upper, upper_next, lower_finer, upper_finer}
use Rattle.charges.specs.declared.rate.Parts.{Parts}
use Rattle.charges.specs.declared.rate.Parts.TheVariants.{Hundredths, TenThousandths, Millionths}
use Rattle.charges.specs.Leaves.{difference, rate, square_root, parts}
use Rattle.charges.specs.Meaning.{Terms}
use Rattle.charges.specs.Quotient.{under_over, over_next, under_finer, over_finer}

pub difference_terms : (losses gains : ℕ) → Terms (difference losses gains)
difference_terms losses gains =
    record {
      order = λ k _. omega arith;
      finer_down = λ j k _ _. omega (arith, mul-sub j (k * losses) (k * gains));
      finer_up = λ j k _ _. omega (arith, mul-sub j (k * losses) (k * gains));
      narrow = omega arith;
      covers = omega arith;
    }

pub rate_terms : (total n d : ℕ) → 0 < d → Terms (rate total n d)
rate_terms total n d some =
    record {
      order = λ k _. under_over (k * total * n) d some;
      finer_down = λ j k _ _. under_finer j (k * total * n) d (j * k * total * n) some (omega arith);
      finer_up = λ j k _ _. over_finer j (k * total * n) d (j * k * total * n) some (omega arith);
      narrow = over_next (1 * total * n) d some;
      covers = omega arith;
    }

pub parts_some : (p : Parts) → 0 < parts p
parts_some Hundredths = omega arith
parts_some TenThousandths = omega arith
parts_some Millionths = omega arith

pub square_root_terms : (total : ℕ) → Terms (square_root total)
square_root_terms total =
    record {
      order = λ k _. lower_le_upper (100 * (k * k * total));
      finer_down = λ j k _ _. lower_finer j (100 * (k * k * total)) (100 * (j * k * (j * k) * total)) (omega arith);
      finer_up = λ j k _ _. upper_finer j (100 * (k * k * total)) (100 * (j * k * (j * k) * total)) (omega arith);
      narrow = upper_next (100 * (1 * 1 * total));
      covers = omega arith;
    }
