use Rattle.std.proofs.Common.{refl}
use Rattle.choice.proofs.Same.{cons}
use Rattle.kinds.proofs.maker.Maker.health.Goals as goal

pub returns : goal.returns
returns c = λ b tally is.
    cons _ _ _ _ (c.part-expense.ensures b.lines tally) (cons _ _ _ _ (c.part-claims.ensures b.lines tally) (cons _ _ _ _ (c.part-accumulation.ensures b.lines tally) (refl)))
