-- The first field of a line that breaks a rule of its kind. Assumes nothing.
use Rattle.std.specs.Prelude.{ℕ, Bool, cond, ◌&&◌, ◌||◌, Some, None, Option, ◌==◌, nat_le, nat_lt}
use Rattle.lines.specs.declared.fields.Fields.{Fields}
use Rattle.lines.specs.declared.kind.Kind.{Kind}
use Rattle.lines.specs.declared.kind.Rule.{Rule}
use Rattle.lines.specs.Kinds.{numbered, rule}

-- a class where the kind has classes, none where it has none
abbrev pub allows : Rule → ℕ → Bool
allows r class = nat_le class r.classes && (nat_lt 0 class || r.classes == 0)

-- the place of the first field that breaks a rule: 2 class, 3 rate, 4 first, 5 second
abbrev pub breaks : Rule → Fields → Option ℕ
breaks r l =
    cond (allows r l.class)
    (cond (nat_le l.rate r.rate)
    (cond (nat_le l.first r.first)
    (cond (nat_le l.second r.second) None
    (Some 5)) (Some 4)) (Some 3)) (Some 2)

-- a line that has no kind breaks the rules at place 1
abbrev pub breaks_of : Option Kind → Fields → Option ℕ
breaks_of None l = Some 1
breaks_of (Some k) l = breaks (rule k) l

abbrev pub wrong : Fields → Option ℕ
wrong l = breaks_of (numbered l.kind) l
