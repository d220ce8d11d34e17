-- Our charges, each table by its name, are those by the tables' numbers. Assumes nothing.
use Rattle.std.proofs.Common.{◌≡◌, ℕ, List, [], ◌∷◌, ap}
use Rattle.roots.specs.Held.{correlation}
use Rattle.charges.specs.Meaning.{Meaning, module_of}
use Rattle.lines.specs.declared.fields.Fields.{Fields}
use Rattle.tables.specs.declared.named.NamedTables.{NamedTables}
use Rattle.tables.specs.Standing.{in_order}
use Rattle.kinds.specs.Exact.{exactly, interest, global_equity, other_equity, property, spread, currency, life, volume, root_of_squares}
use Rattle.kinds.specs.Ours.{all_businesses}
use Rattle.kinds.specs.Ours as Numbered

module _ (ls : List Fields) (ts : NamedTables) where
  -- figures 1 to 6
  abbrev pub market : List Meaning
  market =
      exactly 0 interest ls
      ∷ module_of (correlation ts.equity) (exactly 1 global_equity ls ∷ exactly 1 other_equity ls ∷ [])
      ∷ exactly 1 property ls
      ∷ exactly 1 spread ls
      ∷ root_of_squares 5 ls
      ∷ exactly 1 currency ls
      ∷ []

  -- figures 17 and 18
  abbrev pub non_life : List Meaning
  non_life = module_of (correlation ts.business) (all_businesses ls) ∷ root_of_squares 18 ls ∷ []

  -- figures 19 to 23
  abbrev pub basic_members : List Meaning
  basic_members =
      module_of (correlation ts.market) market
      ∷ exactly 1 (volume 20) ls
      ∷ module_of (correlation ts.life) (exactly 0 (life 7) ls ∷ exactly 0 (life 8) ls ∷ exactly 0 (life 9) ls ∷ exactly 0 (life 10) ls ∷ exactly 0 (life 11) ls ∷ exactly 0 (life 12) ls ∷ exactly 0 (life 13) ls ∷ [])
      ∷ module_of (correlation ts.health) (exactly 1 (volume 14) ls ∷ exactly 1 (volume 15) ls ∷ exactly 1 (volume 16) ls ∷ [])
      ∷ module_of (correlation ts.non_life) non_life
      ∷ []

module _ (ls : List Fields) (ts : NamedTables) (es : List (ℕ → ℕ → ℕ)) (is : in_order ts ≡ es) where
  pub market_same : market ls ts ≡ Numbered.market (record { lines = ls; tables = es })
  market_same = ap (λ (e : List (ℕ → ℕ → ℕ)). Numbered.market (record { lines = ls; tables = e })) is

  pub non_life_same : non_life ls ts ≡ Numbered.non_life (record { lines = ls; tables = es })
  non_life_same = ap (λ (e : List (ℕ → ℕ → ℕ)). Numbered.non_life (record { lines = ls; tables = e })) is

  pub basic_same : basic_members ls ts ≡ Numbered.basic_members (record { lines = ls; tables = es })
  basic_same = ap (λ (e : List (ℕ → ℕ → ℕ)). Numbered.basic_members (record { lines = ls; tables = e })) is
