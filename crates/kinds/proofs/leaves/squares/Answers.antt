use Rattle.std.proofs.Common.{◌*◌, sym, ap, ◌∙◌}
use Rattle.lines.specs.Kinds.{number}
use Rattle.kinds.specs.Finer.{squares_finer}
use Rattle.kinds.specs.Matches.{root_exactly}
use Rattle.kinds.proofs.leaves.squares.Goals as goal

pub returns : goal.returns
returns c = λ ls tally.
    let kind = number c.args.kind in
    c.new.ensures
    ∙ root_exactly kind c.first.result ls c.requires (λ k. ap (λ v. k * k * v) (c.first.ensures.value ∙ tally.firsts kind 0) ∙ sym (squares_finer kind 0 k ls c.requires))
