use Rattle.choice.specs.Basis.{basis}
use Rattle.kinds.proofs.ours.OursChoice.market.Goals as goal

pub returns : goal.returns
returns c = c.market.ensures (basis c.args.given.now) c.maker.ensures.totals c.maker.ensures.tables
