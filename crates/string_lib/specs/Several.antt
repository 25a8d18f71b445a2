-- What the functions of the string library give that give several values (manual, section 6.4).
use Rattle.std.specs.Prelude.{ℕ, pos, length, map, List, [], ◌∷◌, Result, Ok, Err, if◌then◌else◌, nat_lt, codes}
use Rattle.lanes_arena.specs.Names.{named}
use Rattle.object_store.specs.declared.value.Value.{Value}
use Rattle.object_store.specs.declared.value.Value.TheVariants as V
use Rattle.object_store.specs.declared.fault.LuaFault.{LuaFault}
use Rattle.object_store.specs.declared.fault.LuaFault.TheVariants as lua
use Rattle.lua_ops.specs.Metamethods.{Texts}
use Rattle.string_lib.specs.declared.piece.Piece.{Piece}
use Rattle.string_lib.specs.declared.piece.Piece.TheVariants as piece
use Rattle.string_lib.specs.String.{then_on, string, integer_or}
use Rattle.string_lib.specs.Given.{interned}
use Rattle.string_lib.specs.Texts as text

-- ---- pieces of an answer, whose texts are interned one after the other

abbrev pub value_in : Texts → Piece → Value
value_in texts (piece.Value v) = v
value_in texts (piece.Text t) = interned texts t

abbrev pub texts_with : Texts → Piece → Texts
texts_with texts (piece.Value v) = texts
texts_with texts (piece.Text t) = named texts t

abbrev pub values_of : Texts → List Piece → List Value
values_of texts [] = []
values_of texts (p ∷ ps) = value_in texts p ∷ values_of (texts_with texts p) ps

abbrev pub texts_after : Texts → List Piece → Texts
texts_after texts [] = texts
texts_after texts (p ∷ ps) = texts_after (texts_with texts p) ps

abbrev pub Pieces : Type 0
Pieces = Result (List Piece) LuaFault

-- ---- `byte`

abbrev pub byte_codes : List ℕ → List Piece
byte_codes bytes = map (λ b. piece.Value (V.Int (pos b))) bytes

-- the most values that a call gives
abbrev pub most_values : ℕ
most_values = 1048576

abbrev pub few_codes : List ℕ → Pieces
few_codes bytes =
    if nat_lt most_values (length bytes) then Err lua.TooManyValues else Ok (byte_codes bytes)

abbrev pub byte_step : Texts → List Value → Pieces
byte_step texts args =
    then_on (string texts (codes "byte") 1 args) (λ s.
    then_on (integer_or texts (codes "byte") 2 (pos 1) args) (λ first.
    then_on (integer_or texts (codes "byte") 3 first args) (λ last.
    few_codes (text.part s first last))))
