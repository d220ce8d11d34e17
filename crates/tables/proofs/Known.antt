-- The table with a number. Assumes nothing.
use Rattle.std.proofs.Common.{◌≡◌, ℕ, Ok, arith}
use Rattle.std.proofs.lemmas.Bool.Decides.{nat_tests}
use Rattle.std.specs.Option.{ok_or}
use Rattle.tables.specs.declared.which.UnknownTable.{UnknownTable}
use Rattle.tables.specs.declared.which.Which.{Which}
use Rattle.tables.specs.Numbers.{number, numbered}

pub known : (n : ℕ) (w : Which) (e : UnknownTable) → Ok w ≡ ok_or (numbered n) e → number w ≡ n
known n w e h = grind (arith, nat_tests)
