-- What a fault of the grammar says, and the line of the script where it is.
use Rattle.std.specs.Prelude.{ℕ, List, ◌++◌, codes, Option, Some, None}
use Rattle.lua_parser.specs.declared.fault.ParseFault.{ParseFault}
use Rattle.lua_parser.specs.declared.fault.ParseFault.TheVariants.{Unexpected, FloatOperator, TooDeep, BadAttribute, Memory}

-- of a token with these bytes, or of the end of the script
abbrev pub unexpected_text : Option (List ℕ) → List ℕ
unexpected_text None = codes "unexpected end"
unexpected_text (Some bytes) = codes "unexpected " ++ (codes "'" ++ (bytes ++ codes "'"))

abbrev pub fault_text : ParseFault → Option (List ℕ) → List ℕ
fault_text (Unexpected place) token = unexpected_text token
fault_text (FloatOperator place) token = codes "float operator"
fault_text (TooDeep place) token = codes "nesting too deep"
fault_text (BadAttribute place) token = codes "unknown attribute"
fault_text Memory token = codes "not enough memory"

abbrev pub fault_line : ParseFault → ℕ
fault_line (Unexpected place) = place.line
fault_line (FloatOperator place) = place.line
fault_line (TooDeep place) = place.line
fault_line (BadAttribute place) = place.line
fault_line Memory = 0
