-- Our charges of figures 1 to 23, from what stands: lines, and tables by their numbers. Assumes nothing.
use Rattle.std.specs.Prelude.{ℕ, zero, suc, List, [], ◌∷◌}
use Rattle.charges.specs.Meaning.{Meaning, module_of}
use Rattle.lines.specs.declared.fields.Fields.{Fields}
use Rattle.tables.specs.Standing.{table}
use Rattle.choice.specs.Basis.{Basis, Chosen}
use Rattle.kinds.specs.Exact.{exactly, interest, global_equity, other_equity, property, spread, currency, life, volume, business, root_of_squares}

-- lines of business from class c on
abbrev pub businesses_from : ℕ → ℕ → List Fields → List Meaning
businesses_from zero c ls = []
businesses_from (suc n) c ls = exactly 1 (business c) ls ∷ businesses_from n (suc c) ls

abbrev pub all_businesses : List Fields → List Meaning
all_businesses ls = businesses_from 15 1 ls

module _ (b : Basis) where
  abbrev pub equity : Meaning
  equity = module_of (table b.tables 3) (exactly 1 global_equity b.lines ∷ exactly 1 other_equity b.lines ∷ [])

  abbrev pub premium_reserve : Meaning
  premium_reserve = module_of (table b.tables 7) (all_businesses b.lines)

  -- figures 1 to 6
  abbrev pub market : List Meaning
  market = exactly 0 interest b.lines ∷ equity ∷ exactly 1 property b.lines ∷ exactly 1 spread b.lines ∷ root_of_squares 5 b.lines ∷ exactly 1 currency b.lines ∷ []

  -- figures 7 to 13
  abbrev pub lives : List Meaning
  lives = exactly 0 (life 7) b.lines ∷ exactly 0 (life 8) b.lines ∷ exactly 0 (life 9) b.lines ∷ exactly 0 (life 10) b.lines ∷ exactly 0 (life 11) b.lines ∷ exactly 0 (life 12) b.lines ∷ exactly 0 (life 13) b.lines ∷ []

  -- figures 14 to 16
  abbrev pub health : List Meaning
  health = exactly 1 (volume 14) b.lines ∷ exactly 1 (volume 15) b.lines ∷ exactly 1 (volume 16) b.lines ∷ []

  -- figures 17 and 18
  abbrev pub non_life : List Meaning
  non_life = premium_reserve ∷ root_of_squares 18 b.lines ∷ []

  abbrev pub market_module : Meaning
  market_module = module_of (table b.tables 2) market

  abbrev pub life_module : Meaning
  life_module = module_of (table b.tables 4) lives

  abbrev pub health_module : Meaning
  health_module = module_of (table b.tables 5) health

  abbrev pub nonlife_module : Meaning
  nonlife_module = module_of (table b.tables 6) non_life

  -- figures 19 to 23
  abbrev pub basic_members : List Meaning
  basic_members = market_module ∷ exactly 1 (volume 20) b.lines ∷ life_module ∷ health_module ∷ nonlife_module ∷ []

-- our choice
abbrev pub ours : Chosen
ours = record { market = market; life = lives; health = health; non_life = non_life; basic = basic_members }

-- the greatest widths of figures 1 to 28
abbrev pub our_widths : List ℕ
our_widths =
    0 ∷ 5 ∷ 1 ∷ 1 ∷ 1 ∷ 1 ∷ 0 ∷ 0 ∷ 0 ∷ 0 ∷ 0 ∷ 0 ∷ 0 ∷ 1 ∷ 1 ∷ 1 ∷ 61 ∷ 1 ∷
    28 ∷ 1 ∷ 1 ∷ 7 ∷ 125 ∷ 487 ∷ 147 ∷ 634 ∷ 212 ∷ 649 ∷ []
