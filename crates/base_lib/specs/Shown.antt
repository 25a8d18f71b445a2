-- The text of a value that has no handler `__tostring` (Lua 5.4 manual, section 6.1, `tostring`).
use Rattle.std.specs.Prelude.{ℕ, pos, List, [], ◌∷◌, ◌++◌, codes, slice_get}
use Rattle.std.specs.Option.{unwrap_or}
use Rattle.std.specs.Fmt.{signed_decimal}
use Rattle.object_store.specs.declared.value.Value.{Value}
use Rattle.object_store.specs.declared.value.Value.TheVariants as V
use Rattle.lua_ops.specs.Metamethods.{Texts, text_at}

-- the names of the library functions by number: base, math, string, table, the Lanes face
abbrev pub library_names : List (List ℕ)
library_names =
    codes "assert" ∷ codes "error" ∷ codes "getmetatable" ∷ codes "ipairs" ∷ codes "ipairs_step" ∷
    codes "next" ∷ codes "pairs" ∷ codes "pcall" ∷ codes "print" ∷ codes "rawequal" ∷
    codes "rawget" ∷ codes "rawlen" ∷ codes "rawset" ∷ codes "require" ∷ codes "select" ∷
    codes "setmetatable" ∷ codes "tonumber" ∷ codes "tostring" ∷ codes "type" ∷ codes "xpcall" ∷
    codes "abs" ∷ codes "floor" ∷ codes "max" ∷ codes "min" ∷ codes "tointeger" ∷ codes "type" ∷
    codes "ult" ∷ codes "byte" ∷ codes "char" ∷ codes "find" ∷ codes "format" ∷ codes "gmatch" ∷
    codes "gsub" ∷ codes "len" ∷ codes "lower" ∷ codes "reverse" ∷ codes "upper" ∷ codes "match" ∷
    codes "rep" ∷ codes "sub" ∷ codes "concat" ∷ codes "insert" ∷ codes "move" ∷ codes "pack" ∷
    codes "remove" ∷ codes "sort" ∷ codes "unpack" ∷ codes "configure" ∷ codes "gen" ∷
    codes "linda" ∷ codes "now_secs" ∷ codes "sleep" ∷ codes "cancel_test" ∷ codes "send" ∷
    codes "receive" ∷ codes "limit" ∷ codes "set" ∷ codes "get" ∷ codes "count" ∷ codes "join" ∷
    codes "cancel" ∷ []

-- the name of the library function of this number, none for a number of no function
abbrev pub library_name : ℕ → List ℕ
library_name number = unwrap_or (slice_get library_names number) []

abbrev pub numbered : List ℕ → ℕ → List ℕ
numbered kind n = kind ++ codes ": " ++ signed_decimal (pos n)

abbrev pub light_names : List (List ℕ)
light_names = codes "cancel_error" ∷ codes "batched" ∷ []

abbrev pub light_name : ℕ → List ℕ
light_name number = unwrap_or (slice_get light_names number) []

abbrev pub shown : Texts → Value → List ℕ
shown texts V.Nil = codes "nil"
shown texts V.False = codes "false"
shown texts V.True = codes "true"
shown texts (V.Int n) = signed_decimal n
shown texts (V.Str id) = text_at texts id.number
shown texts (V.Table id) = numbered (codes "table") id.number
shown texts (V.Func id) = numbered (codes "function") id.number
shown texts (V.Lib id) = codes "function: " ++ library_name id.number
shown texts (V.Linda n) = numbered (codes "linda") n
shown texts (V.Lane n) = numbered (codes "lane") n
shown texts (V.Light id) = codes "light: " ++ light_name id.number
