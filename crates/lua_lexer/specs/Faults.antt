-- What a lexical fault says, and the line of the script where it is.
use Rattle.std.specs.Prelude.{ℕ, List, codes}
use Rattle.lua_lexer.specs.declared.fault.LexFault.{LexFault}
use Rattle.lua_lexer.specs.declared.fault.LexFault.TheVariants.{BadByte, BadNumeral, FloatNumeral, BadEscape, OpenString, OpenComment, TooLong, Memory}

abbrev pub fault_text : LexFault → List ℕ
fault_text (BadByte place) = codes "unexpected byte"
fault_text (BadNumeral place) = codes "malformed numeral"
fault_text (FloatNumeral place) = codes "float numeral"
fault_text (BadEscape place) = codes "invalid escape"
fault_text (OpenString place) = codes "unfinished string"
fault_text (OpenComment place) = codes "unfinished comment"
fault_text TooLong = codes "script too long"
fault_text Memory = codes "not enough memory"

-- 0 where it has no place
abbrev pub fault_line : LexFault → ℕ
fault_line (BadByte place) = place.line
fault_line (BadNumeral place) = place.line
fault_line (FloatNumeral place) = place.line
fault_line (BadEscape place) = place.line
fault_line (OpenString place) = place.line
fault_line (OpenComment place) = place.line
fault_line TooLong = 0
fault_line Memory = 0
