-- What a line adds to the total of its kind and class. Assumes nothing.
use Rattle.std.specs.Prelude.{ℕ, ◌*◌, min, Bool, cond, ◌&&◌, ◌||◌, ◌==◌, nat_le}
use Rattle.lines.specs.declared.fields.Fields.{Fields}

-- a spread line's duration in hundredths of a year, capped for the lower classes and for unrated
abbrev pub capped : ℕ → ℕ → ℕ
capped class duration =
    cond (class == 5 || class == 8) (min duration 800)
    (cond (class == 6) (min duration 500)
    (cond (class == 7) (min duration 400) duration))

-- a spread class's factor, in hundredths of a percent
abbrev pub factor : ℕ → ℕ
factor class =
    cond (class == 1 || class == 2) 25
    (cond (class == 3) 103
    (cond (class == 4) 125
    (cond (class == 5) 339
    (cond (class == 6) 560
    (cond (class == 7) 1120 200)))))

-- the kinds whose amounts are squared
abbrev pub square : ℕ → Bool
square kind = kind == 5 || kind == 18

-- the kinds whose amounts are multiplied by their rate
abbrev pub rated : ℕ → Bool
rated kind = (nat_le 14 kind && nat_le kind 17) || kind == 20

-- what the first amount is multiplied by: duration and factor, the amount itself, a rate, or 1
abbrev pub span : Fields → ℕ
span l =
    cond (l.kind == 4) (capped l.class l.rate * factor l.class)
    (cond (square l.kind) l.first
    (cond (rated l.kind) l.rate 1))

unfoldable pub weight : Fields → ℕ
weight l = l.first * span l
