use Rattle.std.proofs.Common.{◌++◌}
use Rattle.std.proofs.lemmas.Result.{err_from_is_err_and}
use Rattle.charges.specs.Held.{held}
use Rattle.charges.proofs.Nexts.{early, both, late}
use Rattle.charges.proofs.figures.gather_all.Goals as goal

-- In the answers, h0 is what is held at first, and h1 to h5 after the first to the fifth list.

pub returns-in_err-gather_next : goal.returns-in_err-gather_next
returns-in_err-gather_next g c =
    let market = g.Market.Members.each c.args.charges.now.market in
    let life = g.Life.Members.each c.args.charges.now.life in
    let health = g.Health.Members.each c.args.charges.now.health in
    let non_life = g.NonLife.Members.each c.args.charges.now.non_life in
    let basic = g.Basic.Members.each c.args.charges.now.basic in
    let h0 = held c.args.pairs.now in
    let p = err_from_is_err_and c.from_residual.result c.from_residual.ensures.1 in
    rw (p.1, p.2) (early (((market ++ life) ++ health) ++ non_life) basic h0 _ (early ((market ++ life) ++ health) non_life h0 _ (early (market ++ life) health h0 _ (early market life h0 _ c.in_err-gather_next.ensures))))

pub returns-in_err-gather_next-2 : goal.returns-in_err-gather_next-2
returns-in_err-gather_next-2 g c =
    let market = g.Market.Members.each c.args.charges.now.market in
    let life = g.Life.Members.each c.args.charges.now.life in
    let health = g.Health.Members.each c.args.charges.now.health in
    let non_life = g.NonLife.Members.each c.args.charges.now.non_life in
    let basic = g.Basic.Members.each c.args.charges.now.basic in
    let h0 = held c.args.pairs.now in
    let h1 = held c.gather_next.new.pairs in
    let p = err_from_is_err_and c.from_residual-in_err-gather_next-2.result c.from_residual-in_err-gather_next-2.ensures.1 in
    rw (p.1, p.2) (early (((market ++ life) ++ health) ++ non_life) basic h0 _ (early ((market ++ life) ++ health) non_life h0 _ (early (market ++ life) health h0 _ (late market life h0 h1 c.in_ok-gather_next.ensures _ c.in_err-gather_next-2.ensures))))

pub returns-in_err-gather_next-3 : goal.returns-in_err-gather_next-3
returns-in_err-gather_next-3 g c =
    let market = g.Market.Members.each c.args.charges.now.market in
    let life = g.Life.Members.each c.args.charges.now.life in
    let health = g.Health.Members.each c.args.charges.now.health in
    let non_life = g.NonLife.Members.each c.args.charges.now.non_life in
    let basic = g.Basic.Members.each c.args.charges.now.basic in
    let h0 = held c.args.pairs.now in
    let h1 = held c.gather_next.new.pairs in
    let h2 = held c.gather_next-2.new.pairs in
    let ok2 = both market life h0 h1 c.in_ok-gather_next.ensures h2 c.in_ok-gather_next-2.ensures in
    let p = err_from_is_err_and c.from_residual-in_err-gather_next-3.result c.from_residual-in_err-gather_next-3.ensures.1 in
    rw (p.1, p.2) (early (((market ++ life) ++ health) ++ non_life) basic h0 _ (early ((market ++ life) ++ health) non_life h0 _ (late (market ++ life) health h0 h2 ok2 _ c.in_err-gather_next-3.ensures)))

pub returns-in_err-gather_next-4 : goal.returns-in_err-gather_next-4
returns-in_err-gather_next-4 g c =
    let market = g.Market.Members.each c.args.charges.now.market in
    let life = g.Life.Members.each c.args.charges.now.life in
    let health = g.Health.Members.each c.args.charges.now.health in
    let non_life = g.NonLife.Members.each c.args.charges.now.non_life in
    let basic = g.Basic.Members.each c.args.charges.now.basic in
    let h0 = held c.args.pairs.now in
    let h1 = held c.gather_next.new.pairs in
    let h2 = held c.gather_next-2.new.pairs in
    let h3 = held c.gather_next-3.new.pairs in
    let ok2 = both market life h0 h1 c.in_ok-gather_next.ensures h2 c.in_ok-gather_next-2.ensures in
    let ok3 = both (market ++ life) health h0 h2 ok2 h3 c.in_ok-gather_next-3.ensures in
    let p = err_from_is_err_and c.from_residual-in_err-gather_next-4.result c.from_residual-in_err-gather_next-4.ensures.1 in
    rw (p.1, p.2) (early (((market ++ life) ++ health) ++ non_life) basic h0 _ (late ((market ++ life) ++ health) non_life h0 h3 ok3 _ c.in_err-gather_next-4.ensures))

pub returns-in_err-gather_next-5 : goal.returns-in_err-gather_next-5
returns-in_err-gather_next-5 g c =
    let market = g.Market.Members.each c.args.charges.now.market in
    let life = g.Life.Members.each c.args.charges.now.life in
    let health = g.Health.Members.each c.args.charges.now.health in
    let non_life = g.NonLife.Members.each c.args.charges.now.non_life in
    let basic = g.Basic.Members.each c.args.charges.now.basic in
    let h0 = held c.args.pairs.now in
    let h1 = held c.gather_next.new.pairs in
    let h2 = held c.gather_next-2.new.pairs in
    let h3 = held c.gather_next-3.new.pairs in
    let h4 = held c.gather_next-4.new.pairs in
    let ok2 = both market life h0 h1 c.in_ok-gather_next.ensures h2 c.in_ok-gather_next-2.ensures in
    let ok3 = both (market ++ life) health h0 h2 ok2 h3 c.in_ok-gather_next-3.ensures in
    let ok4 = both ((market ++ life) ++ health) non_life h0 h3 ok3 h4 c.in_ok-gather_next-4.ensures in
    let p = err_from_is_err_and c.from_residual-in_err-gather_next-5.result c.from_residual-in_err-gather_next-5.ensures.1 in
    rw (p.1, p.2) (late (((market ++ life) ++ health) ++ non_life) basic h0 h4 ok4 _ c.in_err-gather_next-5.ensures)

pub returns : goal.returns
returns g c =
    let market = g.Market.Members.each c.args.charges.now.market in
    let life = g.Life.Members.each c.args.charges.now.life in
    let health = g.Health.Members.each c.args.charges.now.health in
    let non_life = g.NonLife.Members.each c.args.charges.now.non_life in
    let basic = g.Basic.Members.each c.args.charges.now.basic in
    let h0 = held c.args.pairs.now in
    let h1 = held c.gather_next.new.pairs in
    let h2 = held c.gather_next-2.new.pairs in
    let h3 = held c.gather_next-3.new.pairs in
    let h4 = held c.gather_next-4.new.pairs in
    let h5 = held c.gather_next-5.new.pairs in
    let ok2 = both market life h0 h1 c.in_ok-gather_next.ensures h2 c.in_ok-gather_next-2.ensures in
    let ok3 = both (market ++ life) health h0 h2 ok2 h3 c.in_ok-gather_next-3.ensures in
    let ok4 = both ((market ++ life) ++ health) non_life h0 h3 ok3 h4 c.in_ok-gather_next-4.ensures in
    let ok5 = both (((market ++ life) ++ health) ++ non_life) basic h0 h4 ok4 h5 c.in_ok-gather_next-5.ensures in
    ok5
