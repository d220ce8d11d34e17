use Rattle.std.proofs.Common.{refl}
use Rattle.choice.proofs.Same.{cons}
use Rattle.kinds.proofs.maker.Maker.life.Goals as goal

pub returns : goal.returns
returns c = λ b tally is.
    cons _ _ _ _ (c.fall-4.ensures b.lines tally) (cons _ _ _ _ (c.fall-5.ensures b.lines tally) (cons _ _ _ _ (c.fall-disability.ensures b.lines tally) (cons _ _ _ _ (c.fall-2.ensures b.lines tally) (cons _ _ _ _ (c.fall-3.ensures b.lines tally) (cons _ _ _ _ (c.fall.ensures b.lines tally) (cons _ _ _ _ (c.fall-catastrophe.ensures b.lines tally) (refl)))))))
