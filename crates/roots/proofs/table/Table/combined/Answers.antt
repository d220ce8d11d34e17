use Rattle.roots.specs.Held.{correlation, held}
use Rattle.roots.proofs.Laws.{lawful}
use Rattle.roots.proofs.Tables.{table_sound}
use Rattle.roots.proofs.table.Table.combined.Goals as goal

pub returns-clause-lawful : goal.returns-clause-lawful
returns-clause-lawful c = lawful (correlation c.args.self.now) (table_sound c.args.self.now) (held c.args.amounts.now)
