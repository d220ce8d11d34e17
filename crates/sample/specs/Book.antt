-- Lines given as tuples. Assumes nothing.
use Rattle.std.specs.Prelude.{ℕ, Bool, is_none}
use Rattle.lines.specs.declared.fields.Fields.{Fields}
use Rattle.lines.specs.Rules.{wrong}

-- kind, class, rate, first and second amount
abbrev pub given : ℕ × ℕ × ℕ × ℕ × ℕ → Fields
given t = record { kind = t.0; class = t.1; rate = t.2; first = t.3; second = t.4 }

-- whether a line breaks no rule of its kind
abbrev pub sound : Fields → Bool
sound l = is_none (wrong l)
