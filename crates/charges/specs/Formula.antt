-- Figures 24 to 28 from any charges. Assumes nothing.
use Rattle.std.specs.Prelude.{ℕ, ◌+◌, ◌-◌, ◌*◌, ◌/◌, min, max, List, [], ◌∷◌, ◌++◌}
use Rattle.roots.specs.Form.{added}
use Rattle.charges.specs.declared.beside.Beside.{Beside}
use Rattle.charges.specs.Meaning.{Meaning, means, module_of, downs, ups, widths}
use Rattle.charges.specs.Quotients.{over}

-- each figure from those before it, in a unit k times finer
module _ (t : Beside) (k : ℕ) where
  -- the smaller of 30% of the basic SCR and the larger of the two percentages
  abbrev pub operational_down : ℕ → ℕ
  operational_down b = min (3 * b / 10) (max (k * t.premiums / 100) (k * t.provisions / 100))

  abbrev pub operational_up : ℕ → ℕ
  operational_up b = min (over (3 * b) 10) (max (over (k * t.premiums) 100) (over (k * t.provisions) 100))

  -- the larger of a third of the SCR and the least capital
  abbrev pub minimum_down : ℕ → ℕ
  minimum_down s = max (s / 3) (k * t.least)

  abbrev pub minimum_up : ℕ → ℕ
  minimum_up s = max (over s 3) (k * t.least)

abbrev pub operational : Beside → Meaning → Meaning
operational t b = means (λ k. operational_down t k (b.D k)) (λ k. operational_up t k (b.U k)) (max 1 ((3 * b.width + 18) / 10)) []

abbrev pub together : Meaning → Meaning → Meaning
together a b = means (λ k. a.D k + b.D k) (λ k. a.U k + b.U k) (a.width + b.width) []

abbrev pub minimum : Beside → Meaning → Meaning
minimum t s = means (λ k. minimum_down t k (s.D k)) (λ k. minimum_up t k (s.U k)) ((s.width + 4) / 3) []

-- the members added less the basic SCR: down by its U, cut at 0, and up by its D
abbrev pub diversification : List Meaning → Meaning → Meaning
diversification ms b = means (λ k. added (downs ms k) - b.U k) (λ k. added (ups ms k) - b.D k) (added (widths ms) + b.width) []

-- the figures: those shown beneath, the members of the basic SCR, and the five above
module _ (e : ℕ → ℕ → ℕ) (t : Beside) (shown members : List Meaning) where
  abbrev pub basic : Meaning
  basic = module_of e members

  abbrev pub scr : Meaning
  scr = together basic (operational t basic)

  -- basic SCR, operational, SCR, MCR
  abbrev pub last : List Meaning
  last = basic ∷ operational t basic ∷ scr ∷ minimum t scr ∷ []

  -- those that may be too large: all but diversification
  abbrev pub limited : List Meaning
  limited = (shown ++ members) ++ last

  abbrev pub figures : List Meaning
  figures = limited ++ (diversification members basic ∷ [])
