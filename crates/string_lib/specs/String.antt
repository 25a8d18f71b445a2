-- What the functions of the string library give that give one value (Lua 5.4 manual, section 6.4).
use Rattle.std.specs.Prelude.{ℕ, suc, ◌-◌, ℤ, pos, negsuc, length, map, reverse, List, [], ◌∷◌, ◌++◌, Option, Some, None, Result, Ok, Err, false, if◌then◌else◌, nat_le, slice_get, codes}
use Rattle.std.specs.Option.{unwrap_or}
use Rattle.object_store.specs.declared.value.Value.{Value}
use Rattle.object_store.specs.declared.value.Value.TheVariants as V
use Rattle.object_store.specs.declared.fault.LuaFault.{LuaFault}
use Rattle.object_store.specs.declared.fault.LuaFault.TheVariants as lua
use Rattle.lua_ops.specs.Metamethods.{Texts, operand, piece}
use Rattle.string_lib.specs.declared.functions.StringFn.{StringFn}
use Rattle.string_lib.specs.declared.functions.StringFn.TheVariants as fn
use Rattle.string_lib.specs.Texts as text

-- a value, or a text that is interned then
pub data Plain : Type 0 where
  Of : Value → Plain
  Text : List ℕ → Plain

abbrev pub Answer : Type 0
Answer = Result Plain LuaFault

abbrev pub then_on : {A B : Type 0} →
    Result A LuaFault → (A → Result B LuaFault) → Result B LuaFault
then_on (Ok a) go = go a
then_on (Err fault) go = Err fault

-- ---- arguments, by their number from 1

abbrev pub bad : {A : Type 0} → List ℕ → ℕ → Result A LuaFault
bad name n = Err (lua.BadArgument n name)

abbrev pub or_bad : {A : Type 0} → List ℕ → ℕ → Option A → Result A LuaFault
or_bad name n None = bad name n
or_bad name n (Some a) = Ok a

-- an argument that isn't there counts as nil, where it may be left out
abbrev pub argument : ℕ → List Value → Value
argument n args = unwrap_or (slice_get args (n - 1)) V.Nil

-- an integer, or a string that reads as one
abbrev pub integer : Texts → List ℕ → ℕ → List Value → Result ℤ LuaFault
integer texts name n args = or_bad name n (operand texts false (argument n args))

-- an integer that may be left out
abbrev pub integer_or_none : Texts → ℤ → Value → Option ℤ
integer_or_none texts default V.Nil = Some default
integer_or_none texts default v = operand texts false v

abbrev pub integer_or : Texts → List ℕ → ℕ → ℤ → List Value → Result ℤ LuaFault
integer_or texts name n default args =
    or_bad name n (integer_or_none texts default (argument n args))

-- a string, or an integer as its text
abbrev pub string : Texts → List ℕ → ℕ → List Value → Result (List ℕ) LuaFault
string texts name n args = or_bad name n (piece texts (argument n args))

-- a string that may be left out
abbrev pub string_or_none : Texts → Value → Option (List ℕ)
string_or_none texts V.Nil = Some []
string_or_none texts v = piece texts v

abbrev pub string_or_empty : Texts → List ℕ → ℕ → List Value → Result (List ℕ) LuaFault
string_or_empty texts name n args = or_bad name n (string_or_none texts (argument n args))

-- ---- `char`: the arguments from the n-th on are codes of bytes

abbrev pub code : ℤ → Option ℕ
code (pos n) = if nat_le n 255 then Some n else None
code (negsuc n) = None

abbrev pub code_of : Option ℤ → Option ℕ
code_of None = None
code_of (Some n) = code n

abbrev pub bytes_from : Texts → ℕ → List ℕ → List Value → Answer
bytes_from texts n made [] = Ok (Text made)
bytes_from texts n made (v ∷ vs) =
    then_on (or_bad (codes "char") n (code_of (operand texts false v)))
    (λ b. bytes_from texts (suc n) (made ++ b ∷ []) vs)

-- ---- `rep`

-- how many copies a number asks for
abbrev pub count_of : ℤ → ℕ
count_of (pos n) = n
count_of (negsuc n) = 0

abbrev pub repeated : List ℕ → ℕ → List ℕ → Answer
repeated s count separator =
    if text.is_too_long (length s) count (length separator) then Err lua.TextTooLong
    else Ok (Text (text.copies s count separator))

-- ---- all of them

abbrev pub made_of : Texts → List ℕ → (List ℕ → List ℕ) → List Value → Answer
made_of texts name change args =
    then_on (string texts name 1 args) (λ s. Ok (Text (change s)))

abbrev pub string_step : Texts → StringFn → List Value → Answer
string_step texts fn.Char args = bytes_from texts 1 [] args
string_step texts fn.Len args =
    then_on (string texts (codes "len") 1 args) (λ s. Ok (Of (V.Int (pos (length s)))))
string_step texts fn.Lower args = made_of texts (codes "lower") (map text.lower) args
string_step texts fn.Rep args =
    then_on (string texts (codes "rep") 1 args) (λ s.
    then_on (integer texts (codes "rep") 2 args) (λ n.
    then_on (string_or_empty texts (codes "rep") 3 args) (λ separator.
    repeated s (count_of n) separator)))
string_step texts fn.Reverse args = made_of texts (codes "reverse") reverse args
string_step texts fn.Sub args =
    then_on (string texts (codes "sub") 1 args) (λ s.
    then_on (integer texts (codes "sub") 2 args) (λ first.
    then_on (integer_or texts (codes "sub") 3 (negsuc 0) args) (λ last.
    Ok (Text (text.part s first last)))))
string_step texts fn.Upper args = made_of texts (codes "upper") (map text.upper) args

abbrev pub name_of : StringFn → List ℕ
name_of fn.Char = codes "char"
name_of fn.Len = codes "len"
name_of fn.Lower = codes "lower"
name_of fn.Rep = codes "rep"
name_of fn.Reverse = codes "reverse"
name_of fn.Sub = codes "sub"
name_of fn.Upper = codes "upper"
