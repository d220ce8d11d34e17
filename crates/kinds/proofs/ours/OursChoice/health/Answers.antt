use Rattle.choice.specs.Basis.{basis}
use Rattle.kinds.proofs.ours.OursChoice.health.Goals as goal

pub returns : goal.returns
returns c = c.health.ensures (basis c.args.given.now) c.maker.ensures.totals c.maker.ensures.tables
