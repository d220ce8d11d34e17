-- What a text of amounts and entries comes to. Assumes nothing.
use Rattle.std.specs.Prelude.{ℕ, cond, ◌&&◌, List, [], ◌∷◌, length, Some, None, Ok, Err, Option, Result, ◌==◌, nat_le}
use Rattle.roots.specs.First.{first_above}
use Rattle.roots.specs.Cells.{entry_count, filled}
use Rattle.roots.specs.Form.{form}
use Rattle.roots.specs.Root.{lower, upper}
use Rattle.combination.specs.declared.answer.Combination.{Combination}
use Rattle.combination.specs.declared.answer.Fault.{Fault}
use Rattle.combination.specs.declared.answer.Fault.TheVariants.{Long, NoNumber, AmountCount, AmountLarge, EntryCount, EntryLarge, Extra}
use Rattle.combination.specs.Reading.{line, after_line, words, numbers, first_wrong}

-- the fault with the place that was found, or else r
abbrev pub unless : {X : Type 0} → Option ℕ → (ℕ → Fault) → Result X Fault → Result X Fault
unless None fault r = r
unless (Some place) fault r = Err (fault place)

-- a fault, or what follows from x
abbrev pub and_then : {X Y : Type 0} → Result X Fault → (X → Result Y Fault) → Result Y Fault
and_then (Ok x) f = f x
and_then (Err e) f = Err e

-- the first line: 2 to 16 amounts of at most 16,777,215
abbrev pub amounts : List (List ℕ) → Result (List ℕ) Fault
amounts ws =
    unless (first_wrong ws) (NoNumber 1)
    (cond (nat_le 2 (length ws) && nat_le (length ws) 16) (unless (first_above 16777215 (numbers ws)) AmountLarge (Ok (numbers ws))) (Err (AmountCount (length ws))))

-- the second line: the entries above the diagonal of a table of n members
abbrev pub entries : ℕ → List (List ℕ) → Result (List ℕ) Fault
entries n ws =
    unless (first_wrong ws) (NoNumber 2)
    (cond (length ws == entry_count n) (unless (first_above 100 (numbers ws)) EntryLarge (Ok (numbers ws))) (Err (EntryCount (length ws) (entry_count n))))

-- the amounts xs under the table with the entries given
abbrev pub combination : List ℕ → List ℕ → Combination
combination xs given = record {
  members = length xs;
  form = form (filled (length xs) given) xs;
  low = lower (form (filled (length xs) given) xs);
  high = upper (form (filled (length xs) given) xs);
}

-- nothing but blanks may stand behind the two lines
abbrev pub ended : List (List ℕ) → Combination → Result Combination Fault
ended [] c = Ok c
ended (w ∷ ws) c = Err Extra

abbrev pub judged : List ℕ → Result Combination Fault
judged text =
    cond (nat_le (length text) 65536)
    (and_then (amounts (words (line text))) (λ xs. and_then (entries (length xs) (words (line (after_line text)))) (λ given. ended (words (after_line (after_line text))) (combination xs given))))
    (Err Long)
