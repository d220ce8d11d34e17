use Rattle.std.proofs.Common.{◌*◌, ◌^◌, rules, tests, arith, ◌∙◌, ap, length}
use Rattle.std.specs.List.{zip}
use Rattle.std.proofs.lemmas.Iterator.{YieldsList-from_slice, YieldsList-from_zip, YieldsList-from_map}
use Rattle.std.proofs.lemmas.Iterator.Consumers.{sum_by_from_yields_List, fits_by_from_yields_list, YieldsList-at}
use Rattle.roots.specs.Form.{sum, at}
use Rattle.roots.specs.Held.{correlation}
use Rattle.roots.proofs.Tables.{row_of, row_sum, row_bound}
use Rattle.roots.proofs.table.Table.before_diagonal.Goals as goal

pub sum-requires-clause-fits : goal.sum-requires-clause-fits
sum-requires-clause-fits c =
    let few = ap length c.as_slice.ensures.value in
    let total = row_sum c.args.self.now c.args.r c.as_slice.result.now (search rules) (omega (arith, few)) (omega (arith, few)) in
    let most = row_bound c.args.self.now c.args.r c.as_slice.result.now c.as_slice.ensures.small in
    fits_by_from_yields_list (λ p. p.0 * p.1) (zip (row_of c.args.self.now.cells c.args.r) c.as_slice.result.now) c.map.result (2 ^ 64)
    (YieldsList-from_map _ (λ p. p.0 * p.1) (YieldsList-at c.map.ensures.source (YieldsList-from_zip (YieldsList-from_slice (row_of c.args.self.now.cells c.args.r) cc) (YieldsList-from_slice c.as_slice.result.now cc))) c.map.ensures.closure (λ x r q k. search (rules, tests)))
    (omega (arith, total, most))

pub returns : goal.returns
returns c =
    let few = ap length c.as_slice.ensures.value in
    let total = row_sum c.args.self.now c.args.r c.as_slice.result.now (search rules) (omega (arith, few)) (omega (arith, few)) in
    let most = row_bound c.args.self.now c.args.r c.as_slice.result.now c.as_slice.ensures.small in
    let made = sum_by_from_yields_List (λ p. p.0 * p.1) (zip (row_of c.args.self.now.cells c.args.r) c.as_slice.result.now) c.map.result c.sum.result c.sum.ensures.ran
    (YieldsList-from_map _ (λ p. p.0 * p.1) (YieldsList-at c.map.ensures.source (YieldsList-from_zip (YieldsList-from_slice (row_of c.args.self.now.cells c.args.r) cc) (YieldsList-from_slice c.as_slice.result.now cc))) c.map.ensures.closure (λ x r q k. search (rules, tests))) in
    record { value = made ∙ total ∙ ap (λ ys. sum c.args.r (λ k. correlation c.args.self.now c.args.r k * at ys k)) c.as_slice.ensures.value; bound = omega (arith, made, total, most) }
