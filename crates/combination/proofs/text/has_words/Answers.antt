use Rattle.std.proofs.Common.{not, ◌∙◌, rules, tests}
use Rattle.std.proofs.lemmas.Iterator.{YieldsList-from_slice}
use Rattle.std.proofs.lemmas.Iterator.Search.{any_from_yields_List}
use Rattle.combination.specs.Reading.{blank}
use Rattle.combination.proofs.Words.{any_words}
use Rattle.combination.proofs.text.has_words.Goals as goal

pub returns : goal.returns
returns c = any_from_yields_List (λ b. not (blank b)) _ _ c.any.result c.any.ensures.ran (YieldsList-from_slice c.args.text.now cc) (λ x b q k. search (rules, tests)) ∙ any_words c.args.text.now
