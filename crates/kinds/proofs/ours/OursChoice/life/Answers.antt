use Rattle.choice.specs.Basis.{basis}
use Rattle.kinds.proofs.ours.OursChoice.life.Goals as goal

pub returns : goal.returns
returns c = c.life.ensures (basis c.args.given.now) c.maker.ensures.totals c.maker.ensures.tables
