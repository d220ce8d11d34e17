use Rattle.std.proofs.Common.{refl, ◌∙◌}
use Rattle.roots.specs.Form.{sum}
use Rattle.roots.proofs.Sums.{sum_eq}
use Rattle.lines.specs.Totals.{total}
use Rattle.kinds.specs.Finer.{total_linear, sum_linear}
use Rattle.kinds.specs.Matches.{rate_exactly}
use Rattle.kinds.proofs.leaves.spread.Goals as goal

pub returns : goal.returns
returns c = λ ls tally.
    c.new.ensures
    ∙ rate_exactly (λ s. sum 16 (λ k. total 4 k s)) (sum_linear 16 (total 4) (λ k. total_linear 4 k refl)) 1 1000000 c.whole.result ls (c.whole.ensures.value ∙ sum_eq 16 _ _ (tally.firsts 4))
