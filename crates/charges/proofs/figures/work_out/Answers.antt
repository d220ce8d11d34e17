use Rattle.std.proofs.Common.{◌≡◌, ℕ, ◌+◌, List, [], ◌++◌, length, Some, None, Option, refl, ap, ◌∙◌, arith, length-append}
use Rattle.std.proofs.lemmas.Result.{err_from_is_err_and}
use Rattle.std.specs.Option.{option_map}
use Rattle.roots.specs.Held.{correlation}
use Rattle.roots.proofs.Tables.{table_sound}
use Rattle.charges.specs.Formula.{last}
use Rattle.charges.specs.Held.{held}
use Rattle.charges.specs.Meaning.{Meaning, all_bounds, first_large}
use Rattle.charges.proofs.Lists.{all-++, some_before, bounds_length}
use Rattle.charges.proofs.WorkedFigures.{worked}
use Rattle.charges.proofs.figures.work_out.Goals as goal

four : (a b c d : List Meaning) {k l m n : ℕ} (s : ℕ) → length a ≡ k → length b ≡ l → length c ≡ m → length d ≡ n → k + l + m + n ≡ s → length (a ++ b ++ c ++ d) ≡ s
four a b c d s p q r t e = simp length-append (omega arith)

from_none : (before : List (ℕ × ℕ)) (o : Option ℕ) (f : ℕ) → before ≡ [] → option_map (λ p. length before + p) o ≡ Some f → o ≡ Some f
from_none before None f e h = cc
from_none before (Some i) f e h = let k : length before + i ≡ f = cc in ap Some (omega (arith, ap length e))

pub finish-requires : goal.finish-requires
finish-requires g c =
    let ch = c.args.charges.now in
    let market = g.Market.Members.each ch.market in
    let life = g.Life.Members.each ch.life in
    let health = g.Health.Members.each ch.health in
    let non_life = g.NonLife.Members.each ch.non_life in
    let members = g.Basic.Members.each ch.basic in
    let shown = market ++ life ++ health ++ non_life in
    let many = four market life health non_life 18 (g.met.Market.Members.counted ch.market) (g.met.Life.Members.counted ch.life) (g.met.Health.Members.counted ch.health) (g.met.NonLife.Members.counted ch.non_life) c.requires.shown in
    let got = c.in_ok-gather_all.ensures in
    let is = got.1 ∙ ap (λ l. l ++ all_bounds (shown ++ members)) c.new-pairs.ensures in
    omega (arith, ap length is, bounds_length (shown ++ members), length-append shown members, many, g.met.Basic.Members.counted ch.basic, c.requires.basic)

pub returns-in_err-gather_all : goal.returns-in_err-gather_all
returns-in_err-gather_all g c =
    let ch = c.args.charges.now in
    let market = g.Market.Members.each ch.market in
    let life = g.Life.Members.each ch.life in
    let health = g.Health.Members.each ch.health in
    let non_life = g.NonLife.Members.each ch.non_life in
    let members = g.Basic.Members.each ch.basic in
    let shown = market ++ life ++ health ++ non_life in
    let p = err_from_is_err_and c.from_residual.result c.from_residual.ensures.1 in
    let found = from_none (held c.new-pairs.result) (first_large (shown ++ members)) _ c.new-pairs.ensures c.in_err-gather_all.ensures in
    rw (p.1, p.2) (some_before (shown ++ members) (last (correlation c.args.table.now) c.args.beside.now shown members) _ found, refl)

pub returns-in_err-figures : goal.returns-in_err-figures
returns-in_err-figures g c =
    let ch = c.args.charges.now in
    let market = g.Market.Members.each ch.market in
    let life = g.Life.Members.each ch.life in
    let health = g.Health.Members.each ch.health in
    let non_life = g.NonLife.Members.each ch.non_life in
    let members = g.Basic.Members.each ch.basic in
    let shown = market ++ life ++ health ++ non_life in
    let many = four market life health non_life 18 (g.met.Market.Members.counted ch.market) (g.met.Life.Members.counted ch.life) (g.met.Health.Members.counted ch.health) (g.met.NonLife.Members.counted ch.non_life) c.requires.shown in
    let terms = g.met.Basic.Members.terms ch.basic in
    let got = c.in_ok-gather_all.ensures in
    let is = got.1 ∙ ap (λ l. l ++ all_bounds (shown ++ members)) c.new-pairs.ensures in
    let p = err_from_is_err_and c.from_residual-in_err-figures.result c.from_residual-in_err-figures.ensures.1 in
    rw (p.1, p.2) (c.in_err-figures.ensures shown members terms many got.0 is, refl)

pub returns : goal.returns
returns g c =
    let ch = c.args.charges.now in
    let market = g.Market.Members.each ch.market in
    let life = g.Life.Members.each ch.life in
    let health = g.Health.Members.each ch.health in
    let non_life = g.NonLife.Members.each ch.non_life in
    let members = g.Basic.Members.each ch.basic in
    let shown = market ++ life ++ health ++ non_life in
    let many = four market life health non_life 18 (g.met.Market.Members.counted ch.market) (g.met.Life.Members.counted ch.life) (g.met.Health.Members.counted ch.health) (g.met.NonLife.Members.counted ch.non_life) c.requires.shown in
    let terms = g.met.Basic.Members.terms ch.basic in
    let got = c.in_ok-gather_all.ensures in
    let is = got.1 ∙ ap (λ l. l ++ all_bounds (shown ++ members)) c.new-pairs.ensures in
    let shown_terms =
    all-++ (market ++ life ++ health) non_life (all-++ (market ++ life) health (all-++ market life (g.met.Market.Members.terms ch.market) (g.met.Life.Members.terms ch.life)) (g.met.Health.Members.terms ch.health)) (g.met.NonLife.Members.terms ch.non_life)
    in
    worked (correlation c.args.table.now) (table_sound c.args.table.now) c.args.beside.now shown members shown_terms terms _ (c.in_ok-figures.ensures shown members terms many got.0 is)
