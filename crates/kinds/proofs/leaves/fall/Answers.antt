use Rattle.std.proofs.Common.{◌≡◌, ◌+◌, ◌-◌, ◌∙◌, arith}
use Rattle.lines.specs.Kinds.{number}
use Rattle.kinds.specs.Exact.{fall}
use Rattle.kinds.specs.Finer.{fall_linear}
use Rattle.kinds.specs.Matches.{difference_exactly}
use Rattle.kinds.proofs.leaves.fall.Goals as goal

pub returns : goal.returns
returns c = λ ls tally.
    let kind = number c.args.kind in
    let asset = c.args.asset in
    let liability = c.args.liability in
    let dropped : (c.first.result + c.second.result) - (c.second-2.result + c.first-2.result) ≡ fall (number c.args.kind) c.args.asset c.args.liability ls =
    omega (arith, c.first.ensures.value, c.second.ensures.value, c.first-2.ensures.value, c.second-2.ensures.value, tally.firsts kind asset, tally.seconds kind liability, tally.seconds kind asset, tally.firsts kind liability)
    in
    c.new.ensures ∙ difference_exactly (fall kind asset liability) (fall_linear kind asset liability c.requires) _ _ ls dropped
