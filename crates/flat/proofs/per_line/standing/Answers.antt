use Rattle.std.proofs.Common.{ℕ, ap, ◌∙◌}
use Rattle.roots.proofs.Sums.{sum_eq}
use Rattle.lines.specs.Kinds.{number}
use Rattle.flat.specs.Flats.{flat}
use Rattle.flat.proofs.per_line.standing.Goals as goal

pub returns : goal.returns
returns c =
    let count = c.lines.ensures.value ∙ sum_eq 16 _ _ (c.totals.ensures.counts (number c.args.kind)) in
    ap (λ (p : ℕ × ℕ). flat p.0 p.1) c.exactly.ensures ∙ ap (λ (n : ℕ). flat n n) count
