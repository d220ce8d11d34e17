-- The definitions give the rows worked by hand. Assumes nothing.
use Rattle.std.proofs.Common.{refl}
use Rattle.roots.specs.Form.{form}
use Rattle.roots.specs.Root.{lower, upper, root_by}
use Rattle.lines.specs.Weights.{weight}
use Rattle.kinds.specs.Examples.{Examples}

pub by_hand : Examples
unfolding form lower upper root_by weight
by_hand = record {
  apart = (refl, refl);
  a_quarter = (refl, refl);
  together = (refl, refl);
  ten_times_finer = (refl, refl);
  equity = (refl, refl);
  spread_a = (refl, refl);
  spread_bb = (refl, refl);
  spread_bb_at_its_cap = (refl, refl);
  spread_bb_below = (refl, refl);
  interest_up_and_down = (refl, refl);
  currency_short = (refl, refl);
  least_of_a_third = (refl, refl);
}
