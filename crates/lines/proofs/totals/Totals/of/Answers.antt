use Rattle.std.proofs.Common.{◌^◌, ◌≤◌, length, refl, arith}
use Rattle.lines.specs.declared.sums.Sum.{Sum}
use Rattle.lines.specs.Weights.{weight}
use Rattle.lines.proofs.Adds.{adds_all, sum_more, row_le, plain_row, room}
use Rattle.lines.proofs.Bounds.{within, weight_small}
use Rattle.lines.proofs.totals.Totals.of.Goals as goal

pub add-requires : goal.add-requires
add-requires c =
    let l = c.line-item.result in
    let i = c.loop-line.line-index in
    let ls = c.args.lines.now in
    let few : i ≤ 128 = omega arith in
    let sums = c.loop-line.invariant in
    record {
      first = room (λ (s : Sum). s.first) weight refl (2 ^ 56) weight_small c.loop-line.sums ls i sums.firsts few (omega arith) l l.fields.kind l.fields.class;
      second = room (λ (s : Sum). s.second) (λ l. l.second) refl 4294967295 (λ l. (within l).second) c.loop-line.sums ls i sums.seconds few (omega arith) l l.fields.kind l.fields.class;
      count = room (λ (s : Sum). s.count) (λ _. 1) refl 1 (λ _. omega arith) c.loop-line.sums ls i sums.counts few (omega arith) l l.fields.kind l.fields.class;
    }

pub loop-line-preserved : goal.loop-line-preserved
loop-line-preserved c =
    let l = c.line-item.result in
    let ls = c.args.lines.now in
    let i = c.loop-line.line-index in
    let sums = c.loop-line.invariant in
    let there = c.loop-line-test.true in
    record {
      firsts = sum_more (λ (s : Sum). s.first) weight (λ _ _. refl) c.loop-line.sums c.add.new.self ls i l there c.line-item.is sums.firsts c.add.ensures;
      seconds = sum_more (λ (s : Sum). s.second) (λ l. l.second) (λ _ _. refl) c.loop-line.sums c.add.new.self ls i l there c.line-item.is sums.seconds c.add.ensures;
      counts = sum_more (λ (s : Sum). s.count) (λ _. 1) (λ _ _. refl) c.loop-line.sums c.add.new.self ls i l there c.line-item.is sums.counts c.add.ensures;
    }

pub invariant_of-result : goal.invariant_of-result
invariant_of-result c =
    let ls = c.args.lines.now in
    let few : length ls ≤ 128 = omega arith in
    let sums = adds_all ls c.loop-line.line-index c.loop-line-test.false c.loop-line.invariant in
    record {
      weighty = row_le (λ (s : Sum). s.first) weight refl (2 ^ 56) weight_small c.loop-line.sums ls 128 sums.firsts few;
      small = λ k. omega (arith, row_le (λ (s : Sum). s.second) (λ l. l.second) refl 4294967295 (λ l. (within l).second) c.loop-line.sums ls 128 sums.seconds few k);
      few = row_le (λ (s : Sum). s.count) (λ _. 1) refl 1 (λ _. omega arith) c.loop-line.sums ls 128 sums.counts few;
      plainly = plain_row c.loop-line.sums ls sums.firsts few;
    }

pub returns : goal.returns
returns c =
    let sums = adds_all c.args.lines.now c.loop-line.line-index c.loop-line-test.false c.loop-line.invariant in
    (omega arith, record { firsts = sums.firsts; seconds = sums.seconds; counts = sums.counts })
