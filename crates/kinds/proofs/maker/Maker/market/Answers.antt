use Rattle.std.proofs.Common.{[], refl, ap, ◌∙◌}
use Rattle.kinds.specs.Means.{equity_parts}
use Rattle.choice.proofs.Same.{cons}
use Rattle.kinds.proofs.Same.{module_same}
use Rattle.kinds.proofs.maker.Maker.market.Goals as goal

pub returns : goal.returns
returns c = λ b tally is.
    cons _ _ _ _ (c.interest.ensures b.lines tally) (cons _ _ _ _ (module_same 3 c.args.self.now.tables.now b.tables _ _ _ _ is c.new-equity.ensures.table refl (ap equity_parts c.new-equity.ensures.members ∙ cons _ _ _ _ (c.part-global.ensures b.lines tally) (cons _ _ [] [] (c.part-other.ensures b.lines tally) refl))) (cons _ _ _ _ (c.part-property.ensures b.lines tally) (cons _ _ _ _ (c.spread-spread.ensures b.lines tally) (cons _ _ _ _ (c.squares-concentration.ensures b.lines tally) (cons _ _ _ _ (c.currency.ensures b.lines tally) (refl))))))
