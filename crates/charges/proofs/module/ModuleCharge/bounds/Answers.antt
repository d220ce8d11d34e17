use Rattle.std.proofs.Common.{◌≡◌, ℕ, List, [], ◌++◌, ap, ◌∙◌, ap₂}
use Rattle.std.proofs.lemmas.Result.{err_from_is_err_and}
use Rattle.roots.specs.Form.{form}
use Rattle.roots.specs.Held.{correlation}
use Rattle.roots.specs.Root.{lower, upper}
use Rattle.charges.specs.declared.pairs.Side.TheVariants.{Low, High}
use Rattle.charges.specs.Held.{held, sides}
use Rattle.charges.specs.Meaning.{Meaning, downs, ups, all_bounds}
use Rattle.charges.proofs.Gathering.{lows_of, highs_of, large_member, large_itself, not_large}
use Rattle.charges.proofs.module.ModuleCharge.bounds.Goals as goal

-- behind nothing, what is held is what was gathered
all_of : (ms : List Meaning) (before after : List (ℕ × ℕ)) → before ≡ [] → after ≡ before ++ all_bounds ms → after ≡ all_bounds ms
all_of ms before after e h = h ∙ ap (λ l. l ++ all_bounds ms) e

low_is : (e : ℕ → ℕ → ℕ) (ms : List Meaning) (ps : List (ℕ × ℕ)) (xs : List ℕ) (r : ℕ × ℕ) → ps ≡ all_bounds ms → xs ≡ sides Low ps → r ≡ (lower (form e xs), upper (form e xs)) → r.0 ≡ lower (form e (downs ms 1))
low_is e ms ps xs r a b h = ap (λ (p : ℕ × ℕ). p.0) h ∙ ap (λ l. lower (form e l)) (b ∙ ap (sides Low) a ∙ lows_of ms)

high_is : (e : ℕ → ℕ → ℕ) (ms : List Meaning) (ps : List (ℕ × ℕ)) (xs : List ℕ) (r : ℕ × ℕ) → ps ≡ all_bounds ms → xs ≡ sides High ps → r ≡ (lower (form e xs), upper (form e xs)) → r.1 ≡ upper (form e (ups ms 1))
high_is e ms ps xs r a b h = ap (λ (p : ℕ × ℕ). p.1) h ∙ ap (λ l. upper (form e l)) (b ∙ ap (sides High) a ∙ highs_of ms)

pub returns-in_err-gather : goal.returns-in_err-gather
returns-in_err-gather g c =
    let p = err_from_is_err_and c.from_residual.result c.from_residual.ensures.1 in
    rw p.1 (large_member (correlation c.args.self.now.table) (g.Ms.Members.each c.args.self.now.members) _ c.in_err-gather.ensures)

pub returns-then-high-gt-LIMIT : goal.returns-then-high-gt-LIMIT
returns-then-high-gt-LIMIT g c =
    let e = correlation c.args.self.now.table in
    let ms = g.Ms.Members.each c.args.self.now.members in
    let gathered = c.in_ok-gather.ensures in
    let all = all_of ms (held c.new-pairs.result) (held c.gather.new.pairs) c.new-pairs.ensures gathered.1 in
    large_itself e ms c.combined-high.result.1 (high_is e ms (held c.gather.new.pairs) _ c.combined-high.result all c.side-2.ensures c.combined-high.ensures.value) c.if-high-gt-LIMIT.true

pub returns : goal.returns
returns g c =
    let e = correlation c.args.self.now.table in
    let ms = g.Ms.Members.each c.args.self.now.members in
    let gathered = c.in_ok-gather.ensures in
    let all = all_of ms (held c.new-pairs.result) (held c.gather.new.pairs) c.new-pairs.ensures gathered.1 in
    let high = high_is e ms (held c.gather.new.pairs) _ c.combined-high.result all c.side-2.ensures c.combined-high.ensures.value in
    let low = low_is e ms (held c.gather.new.pairs) _ c.combined-low.result all c.side.ensures c.combined-low.ensures.value in
    (not_large e ms c.combined-high.result.1 gathered.0 high c.if-high-gt-LIMIT.false, ap₂ (λ (l h : ℕ). (l, h)) low high)
