use Rattle.std.proofs.Common.{◌≡◌, ◌+◌, ap, ◌∙◌, rules, tests, arith}
use Rattle.roots.proofs.Fill.{made_by}
use Rattle.lines.specs.Tally.{first_of}
use Rattle.lines.specs.Totals.{total}
use Rattle.kinds.specs.BusinessLists.{businesses_are}
use Rattle.kinds.proofs.businesses.Businesses.of.Goals as goal

pub returns : goal.returns
returns c = λ ls tally.
    businesses_are 15 1 c.from_fn-volumes.result ls c.result-1.given.0 (λ k h.
    made_by _ (λ j. first_of c.args.totals.now 17 (j + 1)) _ (λ j y q r. search (rules, tests)) c.from_fn-volumes.result 0 15 c.from_fn-volumes.ensures.items.each k (omega arith) h
    ∙ tally.firsts 17 (k + 1) ∙ ap (λ d. total 17 d ls) (let e : k + 1 ≡ 1 + k = omega arith in e))
