use Rattle.std.proofs.Common.{ℕ, List, refl, ap}
use Rattle.tables.specs.Standing.{table}
use Rattle.choice.specs.Basis.{basis}
use Rattle.choice.proofs.Same.{answered_same}
use Rattle.choice.proofs.figures.figures_by.Goals as goal

pub returns : goal.returns
returns g c =
    answered_same _ _ _ _ _ _ _ _ _ _ _ _ _ _ _ _ _ (ap (λ (l : List (ℕ → ℕ → ℕ)). table l 1) c.tables.ensures) refl c.market.ensures c.life.ensures c.health.ensures c.non_life.ensures c.basic.ensures (c.figures_of.ensures (basis c.args.given.now).lines c.totals.ensures)
