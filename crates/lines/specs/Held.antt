-- The fields that lines hold. Assumes nothing.
use Rattle.std.specs.Prelude.{List, map}
use Rattle.lines.specs.declared.fields.Fields.{Fields}
use Rattle.lines.specs.declared.line.Line.{Line}

abbrev pub fields_of : Line → Fields
fields_of l = l.fields

abbrev pub plain : List Line → List Fields
plain = map (λ l. l.fields)
