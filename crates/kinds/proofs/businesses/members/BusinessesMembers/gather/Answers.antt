use Rattle.std.proofs.Common.{sym, ◌∙◌, arith}
use Rattle.charges.specs.Held.{held}
use Rattle.charges.specs.Leaves.{rated}
use Rattle.kinds.specs.Means.{businesses}
use Rattle.kinds.proofs.Asked.{asked_more, asked_large}
use Rattle.kinds.specs.Kept.{rated_terms}
use Rattle.kinds.specs.BusinessLists.{business_at, count_fifteen}
use Rattle.kinds.proofs.businesses.members.BusinessesMembers.gather.Goals as goal

pub loop-i-preserved : goal.loop-i-preserved
loop-i-preserved c =
    let told = c.in-Ok.ensures in
    let b = c.args.self.now in
    let m = rated c.new.result in
    let is = business_at b.volumes c.loop-i.i m (omega (arith, b.full, c.loop-i-test.true)) ∙ sym c.new.ensures in
    asked_more (businesses b) (held c.args.pairs.now) c.loop-i.i (omega (arith, count_fifteen b, c.loop-i-test.true)) m is
    (held c.loop-i.pairs) (held c.push.new.self) c.in-Ok.pair c.push.result (rated_terms c.new.result) told.0 told.1 (omega (arith, count_fifteen b, c.requires.room)) c.loop-i.invariant c.push.ensures.answer c.push.ensures.after

pub returns-in_default : goal.returns-in_default
returns-in_default c =
    let b = c.args.self.now in
    let m = rated c.new.result in
    let is = business_at b.volumes c.loop-i.i m (omega (arith, b.full, c.loop-i-test.true)) ∙ sym c.new.ensures in
    asked_large (businesses b) (held c.args.pairs.now) c.loop-i.i (omega (arith, count_fifteen b, c.loop-i-test.true)) m is (held c.loop-i.pairs) c.loop-i.invariant c.in_default.ensures
