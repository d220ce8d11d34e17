use Rattle.std.proofs.Common.{◌≡◌, refl}
use Rattle.roots.specs.Root.{lower, upper, root_by}
use Rattle.charges.specs.Meaning.{widths}
use Rattle.choice.specs.Basis.{Basis, on}
use Rattle.choice.specs.Figured.{all_figures}
use Rattle.kinds.specs.Ours.{ours, our_widths}
use Rattle.choice.proofs.Same.{answered_same}
use Rattle.kinds.proofs.ByHand.{by_hand}
use Rattle.kinds.proofs.worked.figures.Goals as goal

widths_are : (b : Basis) → widths (all_figures ours b) ≡ our_widths
unfolding upper lower root_by
widths_are b = refl

pub returns-clause-answer : goal.returns-clause-answer
returns-clause-answer c = λ ls tally.
    let b = on ls c.args.tables.now in
    answered_same _ _ _ _ _ _ _ _ _ _ _ _ _ _ _ _ _ refl refl (c.market.ensures b tally refl) (c.life.ensures b tally refl) (c.health.ensures b tally refl) (c.non_life.ensures b tally refl) (c.basic.ensures b tally refl) (c.figures_of.ensures ls tally)

pub returns-clause-width : goal.returns-clause-width
returns-clause-width c = widths_are

pub returns-clause-worked : goal.returns-clause-worked
returns-clause-worked c = by_hand
