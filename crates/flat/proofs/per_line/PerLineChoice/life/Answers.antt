use Rattle.std.proofs.Common.{refl}
use Rattle.choice.proofs.Same.{cons}
use Rattle.flat.proofs.per_line.PerLineChoice.life.Goals as goal

pub returns : goal.returns
returns c =
    cons _ _ _ _ (c.standing-6.ensures) (cons _ _ _ _ (c.standing-7.ensures) (cons _ _ _ _ (c.standing-5.ensures) (cons _ _ _ _ (c.standing-3.ensures) (cons _ _ _ _ (c.standing-4.ensures) (cons _ _ _ _ (c.standing.ensures) (cons _ _ _ _ (c.standing-2.ensures) refl))))))
