use Rattle.std.proofs.Common.{◌≡◌, ℕ, refl, ap}
use Rattle.flat.specs.Flats.{flat, flatly}
use Rattle.flat.specs.PerLine.{fixed}
use Rattle.choice.proofs.Same.{cons}
use Rattle.flat.proofs.per_line.PerLineChoice.basic.Goals as goal

pub returns : goal.returns
returns c =
    let same : flatly c.exactly-fixed.result ≡ fixed = ap (λ (p : ℕ × ℕ). flat p.0 p.1) c.exactly-fixed.ensures in
    cons _ _ _ _ (same) (cons _ _ _ _ (c.standing.ensures) (cons _ _ _ _ (same) (cons _ _ _ _ (same) (cons _ _ _ _ (same) refl))))
