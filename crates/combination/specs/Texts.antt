-- What is printed. Assumes nothing.
use Rattle.std.specs.Prelude.{ℕ, List, ◌++◌, Ok, Err, codes, decimal, Result}
use Rattle.combination.specs.declared.answer.Combination.{Combination}
use Rattle.combination.specs.declared.answer.Fault.{Fault}
use Rattle.combination.specs.declared.answer.Fault.TheVariants.{Long, NoNumber, AmountCount, AmountLarge, EntryCount, EntryLarge, Extra}

abbrev pub combination_text : Combination → List ℕ
combination_text c = codes "members " ++ (decimal c.members ++ (codes "\nform " ++ (decimal c.form ++ (codes "\nlow " ++ (decimal c.low ++ (codes "\nhigh " ++ (decimal c.high ++ codes "\n")))))))

abbrev pub fault_text : Fault → List ℕ
fault_text Long = codes "the input has more than 65536 bytes\n"
fault_text (NoNumber l w) = codes "line " ++ (decimal l ++ (codes ", word " ++ (decimal w ++ codes ": not a whole number\n")))
fault_text (AmountCount n) = codes "line 1: " ++ (decimal n ++ codes " amounts, where 2 to 16 are wanted\n")
fault_text (AmountLarge w) = codes "line 1, word " ++ (decimal w ++ codes ": an amount above 16777215\n")
fault_text (EntryCount n wanted) = codes "line 2: " ++ (decimal n ++ (codes " entries, where " ++ (decimal wanted ++ codes " are wanted\n")))
fault_text (EntryLarge w) = codes "line 2, word " ++ (decimal w ++ codes ": an entry above 100\n")
fault_text Extra = codes "line 3: text behind the two lines\n"

abbrev pub answer_text : Result Combination Fault → List ℕ
answer_text (Ok c) = combination_text c
answer_text (Err e) = fault_text e
