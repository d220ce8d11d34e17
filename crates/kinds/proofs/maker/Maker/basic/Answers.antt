use Rattle.std.proofs.Common.{refl, ap, ◌∙◌}
use Rattle.kinds.specs.Means.{market_parts, life_parts, health_parts, nonlife_parts}
use Rattle.choice.proofs.Same.{cons}
use Rattle.kinds.proofs.Same.{module_same}
use Rattle.kinds.proofs.maker.Maker.basic.Goals as goal

pub returns : goal.returns
returns c = λ b tally is.
    cons _ _ _ _ (module_same 2 c.args.self.now.tables.now b.tables _ _ _ _ is c.new-market.ensures.table refl (ap market_parts c.new-market.ensures.members ∙ c.market.ensures b tally is)) (cons _ _ _ _ (c.part-default.ensures b.lines tally) (cons _ _ _ _ (module_same 4 c.args.self.now.tables.now b.tables _ _ _ _ is c.new-life.ensures.table refl (ap life_parts c.new-life.ensures.members ∙ c.life.ensures b tally is)) (cons _ _ _ _ (module_same 5 c.args.self.now.tables.now b.tables _ _ _ _ is c.new-health.ensures.table refl (ap health_parts c.new-health.ensures.members ∙ c.health.ensures b tally is)) (cons _ _ _ _ (module_same 6 c.args.self.now.tables.now b.tables _ _ _ _ is c.new-non_life.ensures.table refl (ap nonlife_parts c.new-non_life.ensures.members ∙ c.non_life.ensures b tally is)) (refl)))))
