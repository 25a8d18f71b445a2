use Rattle.std.proofs.Common.{◌≡◌, ◌<◌, ◌^◌, length, true}
use Rattle.std.specs.List.{list_all}
use Rattle.lua_lexer.specs.Bytes.{is_hex_digit}
use Rattle.lua_lexer.specs.Spellings.{hex_number}
use Rattle.lua_lexer.proofs.escape.code_number.Given as goal

abbrev pub invariant-loop-first : goal.invariant-loop-first
invariant-loop-first l = record { value : hex_number l.number l.left ≡ hex_number 0 l.fn.digits; digits : list_all is_hex_digit l.left ≡ true; small : l.number < 2 ^ 31 }

abbrev pub decreases-loop-first : goal.decreases-loop-first
decreases-loop-first l = length l.left
