use Rattle.std.proofs.Common.{◌≡◌, ◌+◌, ◌*◌, length, get_or, ap, ap₂, ◌∙◌, arith}
use Rattle.roots.specs.Form.{pairs, at, form}
use Rattle.roots.specs.Held.{correlation, held}
use Rattle.roots.proofs.Sums.{pairs_more}
use Rattle.roots.proofs.Tables.{table_sound, member_bound}
use Rattle.roots.proofs.table.Table.form.Goals as goal

pub loop-r-preserved : goal.loop-r-preserved
loop-r-preserved c =
    let x = get_or c.as_slice-x-items.result.now c.loop-r.r 0 in
    let same = ap (λ ys. at ys c.loop-r.r) c.as_slice-x-items.ensures.value in
    let most = member_bound x c.before_diagonal.result c.loop-r.r (c.as_slice-x-items.ensures.small c.loop-r.r) c.before_diagonal.ensures.bound in
    let more = pairs_more (correlation c.args.self.now) (table_sound c.args.self.now) c.loop-r.r (at (held c.args.amounts.now)) in
    let row = ap₂ (λ v b. v * (100 * v + 2 * b)) same c.before_diagonal.ensures.value in
    (omega (arith, more, row, c.loop-r.invariant.0), omega arith)

pub returns-clause-value : goal.returns-clause-value
unfolding form
returns-clause-value c =
    let xs = held c.args.amounts.now in
    let e = correlation c.args.self.now in
    let all : c.loop-r.r ≡ length (held c.args.amounts.now) = omega (arith, ap length c.as_slice-x-items.ensures.value) in
    c.loop-r.invariant.0 ∙ ap (λ n. pairs e n (at xs) (at xs)) all
