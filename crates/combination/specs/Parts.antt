-- What the two lines give. Assumes nothing.
use Rattle.std.specs.Prelude.{◌≡◌, ℕ, List, length, Ok, Err, Result}
use Rattle.roots.specs.declared.amounts.Amounts.{Amounts}
use Rattle.roots.specs.declared.amounts.AmountFault.{AmountFault}
use Rattle.roots.specs.declared.amounts.AmountFault.TheVariants as amount
use Rattle.roots.specs.declared.size.Size.{Size}
use Rattle.roots.specs.declared.table.Table.{Table}
use Rattle.roots.specs.declared.table.TableFault.{TableFault}
use Rattle.roots.specs.declared.table.TableFault.TheVariants as table
use Rattle.roots.specs.Cells.{filled}
use Rattle.roots.specs.Held.{members_of, correlation, held}
use Rattle.combination.specs.declared.answer.Fault.{Fault}
use Rattle.combination.specs.declared.answer.Fault.TheVariants.{AmountCount, AmountLarge, EntryCount, EntryLarge}
use Rattle.combination.specs.Judged.{amounts, entries}
use Rattle.combination.specs.Reading.{numbers}

-- a fault of the amounts or of the table, as a fault of the text
abbrev pub amount_fault : AmountFault → ℕ → Fault
amount_fault amount.Count given = AmountCount given
amount_fault (amount.Large word) given = AmountLarge word

abbrev pub entry_fault : TableFault → ℕ → ℕ → Fault
entry_fault table.Count given wanted = EntryCount given wanted
entry_fault (table.Entry word) given wanted = EntryLarge word

abbrev pub AmountsRead : List (List ℕ) → Result (Size × Amounts) Fault → Type 0
AmountsRead ws (Ok p) = (amounts ws ≡ Ok (held p.1)) × (members_of p.0 ≡ length (held p.1))
AmountsRead ws (Err e) = amounts ws ≡ Err e

abbrev pub TableRead : ℕ → List (List ℕ) → Result Table Fault → Type 0
TableRead n ws (Ok t) = (entries n ws ≡ Ok (numbers ws)) × ((r c : ℕ) → correlation t r c ≡ filled n (numbers ws) r c)
TableRead n ws (Err e) = entries n ws ≡ Err e
