use Rattle.std.proofs.Common.{◌≡◌, Ok, Err, rules, tests}
use Rattle.std.specs.Result.{MatchResult}
use Rattle.roots.specs.Held.{members_of}
use Rattle.combination.specs.Listed.{NumbersRead}
use Rattle.combination.specs.Parts.{entry_fault}
use Rattle.combination.specs.Reading.{words}
use Rattle.combination.proofs.Judging.{table_read}
use Rattle.combination.proofs.reading.read_table.Goals as goal

pub returns : goal.returns
returns c =
    let is : c.read_numbers.result ≡ Ok c.in_ok-numbers.numbers = search (rules, tests) in
    let read : NumbersRead (words c.args.line.now) (Ok c.in_ok-numbers.numbers) = rw is at c.read_numbers.ensures in
    let told : MatchResult c.from_upper.result (λ t. c.map_err-2.result ≡ Ok t) (λ f. c.map_err-2.result ≡ Err (entry_fault f c.len-given.result c.entries-wanted.result)) = search (rules, tests) in
    table_read (words c.args.line.now) read.0 (members_of c.args.size) c.in_ok-numbers.numbers.items c.as_slice-2.result.now read.2 (search rules) c.from_upper.result c.map_err-2.result c.len-given.result c.entries-wanted.result c.from_upper.ensures c.len-given.ensures.value c.entries-wanted.ensures.value told
