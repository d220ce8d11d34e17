-- What is printed of a text, by what it comes to. Assumes nothing.
use Rattle.std.specs.Prelude.{◌≡◌, true, false, is_ok, Ok, Err, Result, String, string_bytes}
use Rattle.std.specs.Global.{Global}
use Rattle.combination.specs.declared.answer.Combination.{Combination}
use Rattle.combination.specs.declared.answer.Fault.{Fault}
use Rattle.combination.specs.declared.reading.NoReply.{NoReply}
use Rattle.combination.specs.declared.reading.NoReply.TheVariants.{Refused, Memory}
use Rattle.combination.specs.Texts.{answer_text}

-- the lines of a combination exactly where there is one, the line of a fault exactly where there is one;
-- memory may be wanting for either
abbrev pub Replies : Result Combination Fault → Result (String Global) NoReply → Type 0
Replies judged (Ok text) = (is_ok judged ≡ true) × (string_bytes text ≡ answer_text judged)
Replies judged (Err (Refused text)) = (is_ok judged ≡ false) × (string_bytes text ≡ answer_text judged)
Replies judged (Err (Memory error)) = Unit {0}
