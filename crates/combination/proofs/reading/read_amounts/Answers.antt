use Rattle.std.proofs.Common.{◌≡◌, length, Some, Ok, Err, ◌∙◌, rules, tests}
use Rattle.std.proofs.lemmas.Result.{err_from_is_err_and}
use Rattle.roots.specs.Answers.{sized, AmountsMade}
use Rattle.roots.specs.Held.{members_of}
use Rattle.roots.specs.declared.amounts.AmountFault.{AmountFault}
use Rattle.combination.specs.Listed.{NumbersRead}
use Rattle.combination.specs.Parts.{amount_fault}
use Rattle.combination.specs.Reading.{words}
use Rattle.combination.proofs.Judging.{amounts_right, amounts_wrong}
use Rattle.combination.proofs.reading.read_amounts.Goals as goal

pub returns-in_err-amounts : goal.returns-in_err-amounts
returns-in_err-amounts c =
    let read : NumbersRead (words c.args.line.now) (Ok c.in_ok-numbers.numbers) = search rules in
    let size : Some (members_of c.in_ok-size.size) ≡ sized (length c.as_slice.result.now) = search rules in
    let told : (f : AmountFault) × (c.from_slice.result ≡ Err f) × (c.in_err-amounts.field-0.0 ≡ amount_fault f c.len-given.result) = search (rules, tests) in
    let made : AmountsMade c.as_slice.result.now (Err told.0) = rw told.1 at c.from_slice.ensures in
    let p = err_from_is_err_and c.from_residual-in_err-amounts.result c.from_residual-in_err-amounts.ensures.1 in
    rw (p.1, p.2, told.2) (amounts_wrong (words c.args.line.now) read.0 c.as_slice.result.now (c.as_slice.ensures.value ∙ read.2) (members_of c.in_ok-size.size) size told.0 c.len-given.result made)

pub returns : goal.returns
returns c =
    let read : NumbersRead (words c.args.line.now) (Ok c.in_ok-numbers.numbers) = search rules in
    let size : Some (members_of c.in_ok-size.size) ≡ sized (length c.as_slice.result.now) = search rules in
    let made : AmountsMade c.as_slice.result.now (Ok c.in_ok-amounts.amounts) = search rules in
    amounts_right (words c.args.line.now) read.0 c.as_slice.result.now (c.as_slice.ensures.value ∙ read.2) (members_of c.in_ok-size.size) size c.in_ok-amounts.amounts made
