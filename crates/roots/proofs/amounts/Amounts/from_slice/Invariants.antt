use Rattle.std.proofs.Common.{◌≡◌, take, None}
use Rattle.roots.specs.First.{first_above}
use Rattle.roots.specs.Held.{held}
use Rattle.roots.proofs.amounts.Amounts.from_slice.Given as goal

abbrev pub invariant-loop-amount : goal.invariant-loop-amount
invariant-loop-amount l = (held l.amounts ≡ take l.amount-index l.given) × (first_above 16777215 (take l.amount-index l.given) ≡ None)
