-- A charge with a given low and high keeps the terms. Assumes nothing.
use Rattle.std.specs.Prelude.{ℕ, ◌+◌, ◌≤◌}
use Rattle.std.proofs.Common.{mul-le-mul_left, arith}
use Rattle.charges.specs.Meaning.{Terms}
use Rattle.flat.specs.Flats.{flat}

pub flat_terms : (low high : ℕ) → low ≤ high → high ≤ low + 50 → Terms (flat low high)
flat_terms low high ordered close =
    record {
      order = λ k _. mul-le-mul_left k ordered;
      finer_down = λ j k _ _. omega arith;
      finer_up = λ j k _ _. omega arith;
      narrow = omega arith;
      covers = omega arith;
    }
