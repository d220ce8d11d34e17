-- What the lists of our charges mean, by their members and tables. Assumes nothing.
use Rattle.std.specs.Prelude.{List, [], ◌∷◌, map}
use Rattle.roots.specs.Held.{correlation}
use Rattle.charges.specs.declared.difference.Difference.{Difference}
use Rattle.charges.specs.declared.module.Module.{Module}
use Rattle.charges.specs.declared.rate.Rate.{Rate}
use Rattle.charges.specs.declared.squares.RootOfSquares.{RootOfSquares}
use Rattle.charges.specs.Leaves.{rate, differs, rated, rooted}
use Rattle.charges.specs.Meaning.{Meaning, module_of}
use Rattle.kinds.specs.declared.businesses.Businesses.{Businesses}

abbrev pub EquityParts : Type 0
EquityParts = Rate × (Rate × Unit {0})

abbrev pub MarketParts : Type 0
MarketParts = Difference × (Module EquityParts × (Rate × (Rate × (RootOfSquares × (Rate × Unit {0})))))

abbrev pub LifeParts : Type 0
LifeParts = Difference × (Difference × (Difference × (Difference × (Difference × (Difference × (Difference × Unit {0}))))))

abbrev pub HealthParts : Type 0
HealthParts = Rate × (Rate × (Rate × Unit {0}))

abbrev pub NonLifeParts : Type 0
NonLifeParts = Module Businesses × (RootOfSquares × Unit {0})

abbrev pub BasicParts : Type 0
BasicParts = Module MarketParts × (Rate × (Module LifeParts × (Module HealthParts × (Module NonLifeParts × Unit {0}))))

-- three times volume × rate, in ten-thousandths, of each line of business
abbrev pub businesses : Businesses → List Meaning
businesses b = map (λ v. rate v 3 10000) b.volumes

abbrev pub equity_parts : EquityParts → List Meaning
equity_parts m = rated m.0 ∷ rated m.1.0 ∷ []

abbrev pub equity_means : Module EquityParts → Meaning
equity_means c = module_of (correlation c.table) (equity_parts c.members)

abbrev pub premium_means : Module Businesses → Meaning
premium_means c = module_of (correlation c.table) (businesses c.members)

abbrev pub market_parts : MarketParts → List Meaning
market_parts m = differs m.0 ∷ equity_means m.1.0 ∷ rated m.1.1.0 ∷ rated m.1.1.1.0 ∷ rooted m.1.1.1.1.0 ∷ rated m.1.1.1.1.1.0 ∷ []

abbrev pub market_means : Module MarketParts → Meaning
market_means c = module_of (correlation c.table) (market_parts c.members)

abbrev pub life_parts : LifeParts → List Meaning
life_parts m = differs m.0 ∷ differs m.1.0 ∷ differs m.1.1.0 ∷ differs m.1.1.1.0 ∷ differs m.1.1.1.1.0 ∷ differs m.1.1.1.1.1.0 ∷ differs m.1.1.1.1.1.1.0 ∷ []

abbrev pub life_means : Module LifeParts → Meaning
life_means c = module_of (correlation c.table) (life_parts c.members)

abbrev pub health_parts : HealthParts → List Meaning
health_parts m = rated m.0 ∷ rated m.1.0 ∷ rated m.1.1.0 ∷ []

abbrev pub health_means : Module HealthParts → Meaning
health_means c = module_of (correlation c.table) (health_parts c.members)

abbrev pub nonlife_parts : NonLifeParts → List Meaning
nonlife_parts m = premium_means m.0 ∷ rooted m.1.0 ∷ []

abbrev pub nonlife_means : Module NonLifeParts → Meaning
nonlife_means c = module_of (correlation c.table) (nonlife_parts c.members)

abbrev pub basic_parts : BasicParts → List Meaning
basic_parts m = market_means m.0 ∷ rated m.1.0 ∷ life_means m.1.1.0 ∷ health_means m.1.1.1.0 ∷ nonlife_means m.1.1.1.1.0 ∷ []
