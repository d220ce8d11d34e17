use Rattle.std.proofs.Common.{◌≡◌, ℕ, ◌+◌, ◌-◌, List, [], ◌∷◌, ◌++◌, length, refl, ap, ◌∙◌, ap₂}
use Rattle.std.proofs.lemmas.List.{length_push}
use Rattle.std.proofs.lemmas.Result.{err_from_is_err_and}
use Rattle.roots.specs.Form.{added}
use Rattle.roots.specs.Held.{correlation}
use Rattle.roots.proofs.Tables.{table_sound}
use Rattle.charges.specs.Held.{held}
use Rattle.charges.specs.Meaning.{downs, ups}
use Rattle.charges.proofs.Finishing.{basic_pair, lows_are, highs_are, stop_basic, stop_scr, stop_minimum, all_figures}
use Rattle.charges.proofs.last.finish.Goals as goal

longer : (before after : List (ℕ × ℕ)) (p : ℕ × ℕ) → after ≡ before ++ (p ∷ []) → length after ≡ length before + 1
longer before after p e = ap length e ∙ length_push before p

pub returns-in_err-push_next : goal.returns-in_err-push_next
returns-in_err-push_next c = λ shown members terms many none is.
    let e = correlation c.args.table.now in
    let t = c.args.beside.now in
    let own = basic_pair e (table_sound c.args.table.now) t shown members terms (held c.args.pairs) (none, is) many _ _ c.combined-low.result c.combined-high.result c.side-lows.ensures c.side-highs.ensures c.combined-low.ensures.value c.combined-high.ensures.value in
    let p = err_from_is_err_and c.from_residual.result c.from_residual.ensures.1 in
    rw (p.1, p.2) (stop_basic e (table_sound c.args.table.now) t shown members terms (held c.args.pairs) (none, is) _ own _ c.in_err-push_next.ensures)

pub returns-in_err-push_next-3 : goal.returns-in_err-push_next-3
returns-in_err-push_next-3 c = λ shown members terms many none is.
    let e = correlation c.args.table.now in
    let t = c.args.beside.now in
    let own = basic_pair e (table_sound c.args.table.now) t shown members terms (held c.args.pairs) (none, is) many _ _ c.combined-low.result c.combined-high.result c.side-lows.ensures c.side-highs.ensures c.combined-low.ensures.value c.combined-high.ensures.value in
    let p = err_from_is_err_and c.from_residual-in_err-push_next-3.result c.from_residual-in_err-push_next-3.ensures.1 in
    rw (p.1, p.2) (stop_scr e (table_sound c.args.table.now) t shown members terms (held c.args.pairs) (none, is) _ own _ c.in_ok-push_next.ensures c.operational-o_low.result c.operational-o_low.ensures _ c.in_ok-push_next-2.ensures _ refl _ c.in_err-push_next-3.ensures)

pub returns-in_err-push_next-4 : goal.returns-in_err-push_next-4
returns-in_err-push_next-4 c = λ shown members terms many none is.
    let e = correlation c.args.table.now in
    let t = c.args.beside.now in
    let own = basic_pair e (table_sound c.args.table.now) t shown members terms (held c.args.pairs) (none, is) many _ _ c.combined-low.result c.combined-high.result c.side-lows.ensures c.side-highs.ensures c.combined-low.ensures.value c.combined-high.ensures.value in
    let p = err_from_is_err_and c.from_residual-in_err-push_next-4.result c.from_residual-in_err-push_next-4.ensures.1 in
    rw (p.1, p.2) (stop_minimum e (table_sound c.args.table.now) t shown members terms (held c.args.pairs) (none, is) _ own _ c.in_ok-push_next.ensures c.operational-o_low.result c.operational-o_low.ensures _ c.in_ok-push_next-2.ensures _ refl _ c.in_ok-push_next-3.ensures c.minimum.result c.minimum.ensures _ c.in_err-push_next-4.ensures)

pub returns : goal.returns
returns c = λ shown members terms many none is.
    let e = correlation c.args.table.now in
    let t = c.args.beside.now in
    let sound = table_sound c.args.table.now in
    let own = basic_pair e sound t shown members terms (held c.args.pairs) (none, is) many _ _ c.combined-low.result c.combined-high.result c.side-lows.ensures c.side-highs.ensures c.combined-low.ensures.value c.combined-high.ensures.value in
    let lows = c.added_up.ensures ∙ ap added (lows_are e sound t shown members terms (held c.args.pairs) (none, is) many _ c.side-lows.ensures) in
    let highs = c.added_up-2.ensures ∙ ap added (highs_are e sound t shown members terms (held c.args.pairs) (none, is) many _ c.side-highs.ensures) in
    let d_low : c.saturating_sub.result ≡ added (downs members 1) - c.combined-high.result.1 = c.saturating_sub.ensures ∙ ap (λ n. n - c.combined-high.result.1) lows in
    let d_high : c.saturating_sub-2.result ≡ added (ups members 1) - c.combined-low.result.0 = c.saturating_sub-2.ensures ∙ ap (λ n. n - c.combined-low.result.0) highs in
    all_figures e sound t shown members terms (held c.args.pairs) (none, is) _ own _ c.in_ok-push_next.ensures c.operational-o_low.result c.operational-o_low.ensures _ c.in_ok-push_next-2.ensures _ refl _ c.in_ok-push_next-3.ensures c.minimum.result c.minimum.ensures _ _ c.in_ok-push_next-4.ensures _ (ap₂ (λ (l h : ℕ). (l, h)) d_low d_high) c.and_last.ensures
