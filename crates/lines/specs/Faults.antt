-- A line's refusal. Assumes nothing.
use Rattle.std.specs.Prelude.{ℕ}
use Rattle.lines.specs.declared.fault.LineFault.{LineFault}
use Rattle.lines.specs.declared.fault.LineFault.TheVariants.{Kind, Class, Rate, First, Second}

-- its number, the line's number, and the field's place
abbrev pub shown : LineFault → ℕ × ℕ × ℕ
shown (Kind line) = (4, line, 1)
shown (Class line) = (5, line, 2)
shown (Rate line) = (6, line, 3)
shown (First line) = (7, line, 4)
shown (Second line) = (7, line, 5)
