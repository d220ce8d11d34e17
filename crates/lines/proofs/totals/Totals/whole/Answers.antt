use Rattle.std.proofs.Common.{◌<◌, ◌^◌, ◌≡◌, ◌∙◌, sum_by, arith, rules}
use Rattle.lines.specs.declared.sums.Sum.{Sum}
use Rattle.lines.specs.Kinds.{number}
use Rattle.lines.proofs.Cells.{row_is}
use Rattle.lines.proofs.totals.Totals.whole.Goals as goal

pub sum-requires-clause-fits : goal.sum-requires-clause-fits
sum-requires-clause-fits c =
    let t = c.args.self.now in
    let is = row_is (λ (s : Sum). s.first) t.sums (number c.args.kind) c.row.result.now c.row.ensures.all c.row.ensures.each in
    let fits : sum_by (λ (s : Sum). s.first) c.row.result.now < 2 ^ 64 = omega (arith, is, t.weighty (number c.args.kind)) in
    search (rules, fits)

pub returns : goal.returns
returns c =
    let t = c.args.self.now in
    let is = row_is (λ (s : Sum). s.first) t.sums (number c.args.kind) c.row.result.now c.row.ensures.all c.row.ensures.each in
    let all : c.sum.result ≡ sum_by (λ (s : Sum). s.first) c.row.result.now = search rules in
    record { value = all ∙ is; small = omega (arith, all, is, t.weighty (number c.args.kind)) }
