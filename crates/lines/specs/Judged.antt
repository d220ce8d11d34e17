-- The judgement of a line's fields. Assumes nothing.
use Rattle.std.specs.Prelude.{ℕ, ◌+◌, min, Some, None, Ok, Err, Option, Result}
use Rattle.lines.specs.declared.fault.LineFault.{LineFault}
use Rattle.lines.specs.declared.fields.Fields.{Fields}
use Rattle.lines.specs.declared.line.Line.{Line}
use Rattle.lines.specs.Faults.{shown}
use Rattle.lines.specs.Held.{fields_of}
use Rattle.lines.specs.Rules.{wrong}

-- an answer by what it shows
abbrev pub told : Result Line LineFault → Result Fields (ℕ × ℕ × ℕ)
told (Ok l) = Ok (fields_of l)
told (Err e) = Err (shown e)

-- places 1 to 5 are refusals 4, 5, 6, 7 and 7
abbrev pub refused_at : Fields → ℕ → Option ℕ → Result Fields (ℕ × ℕ × ℕ)
refused_at l number None = Ok l
refused_at l number (Some place) = Err (3 + min place 4, number, place)

-- the fields, or the refusal of the first that breaks a rule
abbrev pub judged : Fields → ℕ → Result Fields (ℕ × ℕ × ℕ)
judged l number = refused_at l number (wrong l)
