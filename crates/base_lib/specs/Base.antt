-- What the functions of the base library and of math give that call nothing back (Lua 5.4 manual,
-- sections 6.1 and 6.7, in whole numbers).
use Rattle.std.specs.Prelude.{ℕ, zero, suc, ◌-◌, ℤ, pos, negsuc, length, drop, List, [], ◌∷◌, Option, Some, None, Result, Ok, Err, Bool, false, if◌then◌else◌, ◌&&◌, nat_lt, nat_le, int_lt, slice_get, slice_set, codes}
use Rattle.std.specs.Option.{unwrap_or}
use Rattle.std.specs.Str.{bytes_eq}
use Rattle.int_ops.specs.Wrapping.{wrapped, bits_of}
use Rattle.int_ops.specs.Reading.{integer_in}
use Rattle.object_store.specs.declared.value.Value.{Value}
use Rattle.object_store.specs.declared.value.Value.TheVariants as V
use Rattle.object_store.specs.declared.event.Event.TheVariants as event
use Rattle.object_store.specs.declared.fault.LuaFault.{LuaFault}
use Rattle.object_store.specs.declared.fault.LuaFault.TheVariants as lua
use Rattle.object_store.specs.Value.{TableId, value_eq, is_nil, value_of_bool}
use Rattle.object_store.specs.Kind.{kind_of, name_of_kind}
use Rattle.object_store.specs.Pairs.{get_pair, set_pair, next_pair, border_of}
use Rattle.object_store.specs.Table.{Contents}
use Rattle.object_store.specs.Heap.{Heap}
use Rattle.lua_ops.specs.Metamethods.{Texts, text_at, pairs_in, meta_of, handler, operand, piece}
use Rattle.base_lib.specs.declared.functions.BaseFn.{BaseFn}
use Rattle.base_lib.specs.declared.functions.BaseFn.TheVariants as fn

-- values, or a text that is interned then, or the values and a heap that was changed
pub data Plain : Type 0 where
  Values : List Value → Plain
  Text : List ℕ → Plain
  Changed : Heap → List Value → Plain

abbrev pub Answer : Type 0
Answer = Result Plain LuaFault

abbrev pub then_on : {A B : Type 0} →
    Result A LuaFault → (A → Result B LuaFault) → Result B LuaFault
then_on (Ok a) go = go a
then_on (Err fault) go = Err fault

abbrev pub one : Value → Answer
one v = Ok (Values (v ∷ []))

-- ---- arguments, by their number from 1

abbrev pub bad : {A : Type 0} → List ℕ → ℕ → Result A LuaFault
bad name n = Err (lua.BadArgument n name)

-- an argument that isn't there counts as nil, where it may be left out
abbrev pub argument : ℕ → List Value → Value
argument n args = unwrap_or (slice_get args (n - 1)) V.Nil

abbrev pub or_bad : {A : Type 0} → List ℕ → ℕ → Option A → Result A LuaFault
or_bad name n None = bad name n
or_bad name n (Some a) = Ok a

-- an argument of any kind that is there
abbrev pub any : List ℕ → ℕ → List Value → Result Value LuaFault
any name n args = or_bad name n (slice_get args (n - 1))

abbrev pub table_in : Value → Option TableId
table_in (V.Table id) = Some id
table_in v = None

abbrev pub table : List ℕ → ℕ → List Value → Result TableId LuaFault
table name n args = or_bad name n (table_in (argument n args))

-- an integer, or a string that reads as one
abbrev pub integer : Texts → List ℕ → ℕ → List Value → Result ℤ LuaFault
integer texts name n args = or_bad name n (operand texts false (argument n args))

-- a string, or an integer as its text
abbrev pub text : Texts → List ℕ → ℕ → List Value → Result (List ℕ) LuaFault
text texts name n args = or_bad name n (piece texts (argument n args))

-- ---- metatables

abbrev pub meta_value : Option TableId → Value
meta_value None = V.Nil
meta_value (Some id) = V.Table id

-- the field `__metatable` stands for the metatable
abbrev pub get_metatable : Heap → Value → Answer
get_metatable heap v =
    let shown = handler heap event.Metatable v in
    one (if is_nil shown then meta_value (meta_of heap v) else shown)

abbrev pub new_meta : List ℕ → Option Value → Result (Option TableId) LuaFault
new_meta name (Some V.Nil) = Ok None
new_meta name (Some (V.Table id)) = Ok (Some id)
new_meta name v = bad name 2

-- the table of this number with another metatable
abbrev pub meta_set_in : Option Contents → Option TableId → Contents
meta_set_in contents meta = record { pairs = pairs_in contents; meta = meta }

abbrev pub with_meta : Heap → ℕ → Option TableId → Heap
with_meta heap n meta =
    record heap { tables = slice_set heap.tables n (meta_set_in (slice_get heap.tables n) meta) }

abbrev pub set_metatable : Heap → TableId → Option TableId → Answer
set_metatable heap id meta =
    if is_nil (handler heap event.Metatable (V.Table id)) then
    Ok (Changed (with_meta heap id.number meta) (V.Table id ∷ []))
    else Err lua.Protected

-- ---- tables

abbrev pub pairs_at : Heap → TableId → List (Value × Value)
pairs_at heap id = pairs_in (slice_get heap.tables id.number)

abbrev pub next_values : Option (Option (Value × Value)) → Answer
next_values None = Err lua.DeadKey
next_values (Some None) = one V.Nil
next_values (Some (Some pair)) = Ok (Values (pair.0 ∷ pair.1 ∷ []))

abbrev pub raw_len : Texts → Heap → Value → Answer
raw_len texts heap (V.Str id) = one (V.Int (pos (length (text_at texts id.number))))
raw_len texts heap (V.Table id) = one (V.Int (pos (border_of (pairs_at heap id))))
raw_len texts heap v = bad (codes "rawlen") 1

-- the table of this number with a key set
abbrev pub set_in : Option Contents → Value → Value → Contents
set_in None key v = record { pairs = []; meta = None }
set_in (Some contents) key v = record contents { pairs = set_pair contents.pairs key v }

abbrev pub with_pair : Heap → ℕ → Value → Value → Heap
with_pair heap n key v =
    record heap { tables = slice_set heap.tables n (set_in (slice_get heap.tables n) key v) }

abbrev pub raw_set : Heap → TableId → Value → Value → Answer
raw_set heap id key v =
    if is_nil key then Err lua.NilKey
    else Ok (Changed (with_pair heap id.number key v) (V.Table id ∷ []))

-- ---- select

abbrev pub is_text : List ℕ → Texts → Value → Bool
is_text wanted texts (V.Str id) = bytes_eq wanted (text_at texts id.number)
is_text wanted texts v = false

-- from the n-th on, and from the end for a negative n
abbrev pub selected : ℤ → List Value → Answer
selected (pos zero) vs = bad (codes "select") 1
selected (pos (suc n)) vs = Ok (Values (drop n vs))
selected (negsuc n) vs =
    if nat_lt n (length vs) then Ok (Values (drop (length vs - suc n) vs))
    else bad (codes "select") 1

abbrev pub select : Texts → List Value → Answer
select texts args =
    if is_text (codes "#") texts (argument 1 args) then one (V.Int (pos (length (drop 1 args))))
    else then_on (integer texts (codes "select") 1 args) (λ n. selected n (drop 1 args))

-- ---- numbers

abbrev pub integer_or_nil : Option ℤ → Value
integer_or_nil None = V.Nil
integer_or_nil (Some n) = V.Int n

abbrev pub string_in : Texts → Value → Option (List ℕ)
string_in texts (V.Str id) = Some (text_at texts id.number)
string_in texts v = None

abbrev pub small_base : ℤ → Option ℕ
small_base (pos n) = if nat_le 2 n && nat_le n 36 then Some n else None
small_base (negsuc n) = None

abbrev pub read_base : Texts → List Value → List ℕ → Answer
read_base texts args bytes =
    then_on (integer texts (codes "tonumber") 2 args) (λ n.
    then_on (or_bad (codes "tonumber") 2 (small_base n)) (λ base.
    one (integer_or_nil (integer_in base bytes))))

abbrev pub to_number : Texts → List Value → Answer
to_number texts args =
    if is_nil (argument 2 args) then
    then_on (any (codes "tonumber") 1 args) (λ v. one (integer_or_nil (operand texts false v)))
    else
    then_on (or_bad (codes "tonumber") 1 (string_in texts (argument 1 args)))
    (read_base texts args)

abbrev pub size : ℤ → ℤ
size (pos n) = pos n
size (negsuc n) = wrapped (pos (suc n))

abbrev pub greater : ℤ → ℤ → ℤ
greater a b = if int_lt a b then b else a

abbrev pub lesser : ℤ → ℤ → ℤ
lesser a b = if int_lt b a then b else a

-- the arguments from the n-th on are integers, and are brought together one by one
abbrev pub gathered : Texts → List ℕ → (ℤ → ℤ → ℤ) → ℕ → ℤ → List Value → Answer
gathered texts name better n best [] = one (V.Int best)
gathered texts name better n best (v ∷ vs) =
    then_on (or_bad name n (operand texts false v))
    (λ a. gathered texts name better (suc n) (better best a) vs)

abbrev pub best_of : Texts → List ℕ → (ℤ → ℤ → ℤ) → List Value → Answer
best_of texts name better args =
    then_on (integer texts name 1 args) (λ a. gathered texts name better 2 a (drop 1 args))

abbrev pub to_integer : Value → Value
to_integer (V.Int n) = V.Int n
to_integer v = V.Nil

abbrev pub math_type : Value → Answer
math_type (V.Int n) = Ok (Text (codes "integer"))
math_type v = one V.Nil

-- ---- all of them

-- the number of the step function of `ipairs` among the library functions
abbrev pub ipairs_step : Value
ipairs_step = V.Lib (record { number = 4 })

abbrev pub base_step : Texts → Heap → BaseFn → List Value → Answer
base_step texts heap fn.GetMetatable args =
    then_on (any (codes "getmetatable") 1 args) (get_metatable heap)
base_step texts heap fn.Ipairs args =
    then_on (any (codes "ipairs") 1 args) (λ v. Ok (Values (ipairs_step ∷ v ∷ V.Int (pos 0) ∷ [])))
base_step texts heap fn.Next args =
    then_on (table (codes "next") 1 args)
    (λ id. next_values (next_pair (pairs_at heap id) (argument 2 args)))
base_step texts heap fn.RawEqual args =
    then_on (any (codes "rawequal") 1 args) (λ a.
    then_on (any (codes "rawequal") 2 args) (λ b. one (value_of_bool (value_eq a b))))
base_step texts heap fn.RawGet args =
    then_on (table (codes "rawget") 1 args) (λ id.
    then_on (any (codes "rawget") 2 args) (λ key. one (get_pair (pairs_at heap id) key)))
base_step texts heap fn.RawLen args = raw_len texts heap (argument 1 args)
base_step texts heap fn.RawSet args =
    then_on (table (codes "rawset") 1 args) (λ id.
    then_on (any (codes "rawset") 2 args) (λ key.
    then_on (any (codes "rawset") 3 args) (λ v. raw_set heap id key v)))
base_step texts heap fn.Select args = select texts args
base_step texts heap fn.SetMetatable args =
    then_on (table (codes "setmetatable") 1 args) (λ id.
    then_on (new_meta (codes "setmetatable") (slice_get args 1))
    (λ meta. set_metatable heap id meta))
base_step texts heap fn.ToNumber args = to_number texts args
base_step texts heap fn.Type args =
    then_on (any (codes "type") 1 args) (λ v. Ok (Text (name_of_kind (kind_of v))))
base_step texts heap fn.Abs args =
    then_on (integer texts (codes "abs") 1 args) (λ a. one (V.Int (size a)))
base_step texts heap fn.Floor args =
    then_on (integer texts (codes "floor") 1 args) (λ a. one (V.Int a))
base_step texts heap fn.Max args = best_of texts (codes "max") greater args
base_step texts heap fn.Min args = best_of texts (codes "min") lesser args
base_step texts heap fn.ToInteger args =
    then_on (any (codes "tointeger") 1 args) (λ v. one (to_integer v))
base_step texts heap fn.MathType args = then_on (any (codes "type") 1 args) math_type
base_step texts heap fn.Ult args =
    then_on (integer texts (codes "ult") 1 args) (λ a.
    then_on (integer texts (codes "ult") 2 args) (λ b.
    one (value_of_bool (nat_lt (bits_of a) (bits_of b)))))
