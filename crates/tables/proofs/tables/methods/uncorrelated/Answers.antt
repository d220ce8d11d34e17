use mathlib.Core.Path.{fun_ext}
use Rattle.tables.proofs.tables.methods.uncorrelated.Goals as goal

pub returns-clause-entries : goal.returns-clause-entries
returns-clause-entries c = fun_ext (λ r. fun_ext (λ k. c.uncorrelated.ensures.entries r k))
