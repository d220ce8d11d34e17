use Rattle.std.proofs.Common.{◌≡◌, ◌+◌, ◌-◌, refl, ◌∙◌, arith}
use Rattle.lines.specs.Totals.{total}
use Rattle.kinds.specs.Finer.{total_linear, distance_linear}
use Rattle.kinds.specs.Matches.{rate_exactly}
use Rattle.kinds.proofs.leaves.currency.Goals as goal

pub returns : goal.returns
returns c = λ ls tally.
    let away : c.abs_diff.result ≡ (total 6 1 ls - total 6 2 ls) + (total 6 2 ls - total 6 1 ls) = omega (arith, c.abs_diff.ensures, c.first-long.ensures.value, c.first-short.ensures.value, tally.firsts 6 1, tally.firsts 6 2) in
    c.new.ensures
    ∙ rate_exactly _ (distance_linear (total 6 1) (total 6 2) (total_linear 6 1 refl) (total_linear 6 2 refl)) 20 100 c.abs_diff.result ls away
