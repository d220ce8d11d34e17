-- Our charges keep the terms. Assumes nothing.
use Rattle.std.specs.Prelude.{ℕ, List, [], ◌∷◌, map}
use Rattle.std.proofs.Common.{arith}
use Rattle.roots.specs.Held.{correlation}
use Rattle.roots.proofs.Tables.{table_sound}
use Rattle.charges.specs.declared.difference.Difference.{Difference}
use Rattle.charges.specs.declared.rate.Rate.{Rate}
use Rattle.charges.specs.declared.squares.RootOfSquares.{RootOfSquares}
use Rattle.charges.specs.Leaves.{rate, differs, rated, rooted, parts}
use Rattle.charges.specs.Meaning.{Terms, AllTerms}
use Rattle.charges.specs.LeafTerms.{difference_terms, rate_terms, square_root_terms, parts_some}
use Rattle.charges.specs.Modules.{module_terms}
use Rattle.kinds.specs.declared.businesses.Businesses.{Businesses}
use Rattle.kinds.specs.Means.{EquityParts, MarketParts, LifeParts, HealthParts, NonLifeParts, BasicParts, businesses, equity_parts, equity_means, premium_means, market_parts, market_means, life_parts, life_means, health_parts, health_means, nonlife_parts, nonlife_means, basic_parts}
use Rattle.charges.specs.declared.module.Module.{Module}

-- of the values in the code
differs_terms : (c : Difference) → Terms (differs c)
differs_terms c = difference_terms c.losses c.gains

pub rated_terms : (c : Rate) → Terms (rated c)
rated_terms c = rate_terms c.total c.numerator (parts c.parts) (parts_some c.parts)

rooted_terms : (c : RootOfSquares) → Terms (rooted c)
rooted_terms c = square_root_terms c.total

pub businesses_terms : (b : Businesses) → AllTerms (businesses b)
businesses_terms b = go b.volumes
  where
    go : (vs : List ℕ) → AllTerms (map (λ v. rate v 3 10000) vs)
    go [] = tt
    go (v ∷ vs) = (rate_terms v 3 10000 (omega arith), go vs)

equity_terms : (c : Module EquityParts) → Terms (equity_means c)
equity_terms c = let m = c.members in module_terms (correlation c.table) (table_sound c.table) (equity_parts m) (rated_terms m.0, (rated_terms m.1.0, tt))

premium_terms : (c : Module Businesses) → Terms (premium_means c)
premium_terms c = module_terms (correlation c.table) (table_sound c.table) (businesses c.members) (businesses_terms c.members)

market_terms : (c : Module MarketParts) → Terms (market_means c)
market_terms c = let m = c.members in module_terms (correlation c.table) (table_sound c.table) (market_parts m) (differs_terms m.0, (equity_terms m.1.0, (rated_terms m.1.1.0, (rated_terms m.1.1.1.0, (rooted_terms m.1.1.1.1.0, (rated_terms m.1.1.1.1.1.0, tt))))))

life_terms : (c : Module LifeParts) → Terms (life_means c)
life_terms c = let m = c.members in module_terms (correlation c.table) (table_sound c.table) (life_parts m) (differs_terms m.0, (differs_terms m.1.0, (differs_terms m.1.1.0, (differs_terms m.1.1.1.0, (differs_terms m.1.1.1.1.0, (differs_terms m.1.1.1.1.1.0, (differs_terms m.1.1.1.1.1.1.0, tt)))))))

health_terms : (c : Module HealthParts) → Terms (health_means c)
health_terms c = let m = c.members in module_terms (correlation c.table) (table_sound c.table) (health_parts m) (rated_terms m.0, (rated_terms m.1.0, (rated_terms m.1.1.0, tt)))

nonlife_terms : (c : Module NonLifeParts) → Terms (nonlife_means c)
nonlife_terms c = let m = c.members in module_terms (correlation c.table) (table_sound c.table) (nonlife_parts m) (premium_terms m.0, (rooted_terms m.1.0, tt))

pub basic_terms : (m : BasicParts) → AllTerms (basic_parts m)
basic_terms m = (market_terms m.0, (rated_terms m.1.0, (life_terms m.1.1.0, (health_terms m.1.1.1.0, (nonlife_terms m.1.1.1.1.0, tt)))))
