use Rattle.std.proofs.Common.{◌≡◌, List, IsTrue, refl, subst, get_or, map, sym, ◌∙◌, rules, arith}
use Rattle.std.proofs.lemmas.List.{ext_get_or, get_or-map}
use Rattle.lines.specs.declared.fields.Fields.{Fields}
use Rattle.std.specs.List.{list_all}
use Rattle.lines.specs.Kinds.{numbered}
use Rattle.sample.specs.declared.company.TheConstants.{BOOK}
use Rattle.sample.specs.Book.{given, sound}
use Rattle.sample.proofs.company.book.Goals as goal

pub returns-clause-lines : goal.returns-clause-lines
returns-clause-lines c =
    let none : Fields = record { kind = 0; class = 0; rate = 0; first = 0; second = 0 } in
    ext_get_or none _ _ c.map.ensures.items.long (λ i less.
    let h = c.map.ensures.items.at i (0, 0, 0, 0, 0) none (omega (arith, c.map.ensures.items.long)) in
    let one : get_or c.map.result i none ≡ given (get_or BOOK i (0, 0, 0, 0, 0)) = search rules in
    one ∙ sym (get_or-map given BOOK i (0, 0, 0, 0, 0) none (omega (arith, c.map.ensures.items.long))))

computed : IsTrue (list_all sound (map given BOOK))
unfolding numbered
computed = refl

pub returns-clause-sound : goal.returns-clause-sound
returns-clause-sound c = subst (λ (ls : List Fields). IsTrue (list_all sound ls)) (sym (returns-clause-lines c)) computed
