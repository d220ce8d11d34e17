-- The refusals of a filing: each its number and two places. Assumes nothing.
use Rattle.std.specs.Prelude.{ℕ}
use Rattle.lines.specs.Faults as line
use Rattle.tables.specs.Faults as entries
use Rattle.filing.specs.declared.fault.FilingFault.{FilingFault}
use Rattle.filing.specs.declared.fault.FilingFault.TheVariants.{Year, Quarter, Entries, Line, Full, NoLine, TooLarge}

abbrev pub shown : FilingFault → ℕ × ℕ × ℕ
shown Year = (2, 1, 0)
shown Quarter = (2, 2, 0)
shown (Entries e) = entries.shown e
shown (Line e) = line.shown e
shown (Full line) = (8, line, 0)
shown (NoLine number) = (9, number, 0)
shown (TooLarge figure) = (10, figure, 0)
