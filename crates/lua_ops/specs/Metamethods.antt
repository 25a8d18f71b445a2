-- What the operators give for values of any kind (Lua 5.4 manual, sections 2.4 and 3.4).
-- An operator gives a value itself, or it names a handler, a field of a metatable, whose call gives
-- the value. An id that names nothing stands for an empty table or an empty text.
use Rattle.std.specs.Prelude.{ℕ, zero, suc, ℤ, pos, neg_ℤ, ◌+ℤ◌, ◌-ℤ◌, ◌*ℤ◌, length, List, [], ◌∷◌, ◌++◌, Option, Some, None, Result, Ok, Err, Bool, true, false, not, if◌then◌else◌, nat_lt, int_lt, slice_get, bit_and, bit_or, bit_xor}
use Rattle.std.specs.Fmt.{signed_decimal}
use Rattle.std.specs.Option.{unwrap_or}
use Rattle.int_ops.specs.Wrapping.{wrapped, floor_quotient, floor_remainder, bits_of, of_bits, other_bits, shifted_left, shifted_right}
use Rattle.int_ops.specs.Reading.{integer_of}
use Rattle.object_store.specs.declared.value.Value.{Value}
use Rattle.object_store.specs.declared.value.Value.TheVariants as V
use Rattle.object_store.specs.declared.event.Event.{Event}
use Rattle.object_store.specs.declared.event.Event.TheVariants as event
use Rattle.object_store.specs.declared.fault.LuaFault.{LuaFault}
use Rattle.object_store.specs.declared.fault.LuaFault.TheVariants as lua
use Rattle.object_store.specs.Value.{TableId, value_eq, is_nil, value_of_bool}
use Rattle.object_store.specs.Kind.{kind_of}
use Rattle.object_store.specs.Event.{event_key}
use Rattle.object_store.specs.Pairs.{get_pair, border_of}
use Rattle.object_store.specs.Table.{Contents}
use Rattle.object_store.specs.Heap.{Heap}
use Rattle.lua_ops.specs.declared.step.Step.{Step}
use Rattle.lua_ops.specs.declared.step.Step.TheVariants as step
use Rattle.lua_ops.specs.declared.step.Target.{Target}
use Rattle.lua_ops.specs.declared.step.Target.TheVariants as target
use Rattle.lua_ops.specs.declared.step.ArithOp.{ArithOp}
use Rattle.lua_ops.specs.declared.step.ArithOp.TheVariants as op
use Rattle.lua_ops.specs.declared.step.CompareOp.{CompareOp}
use Rattle.lua_ops.specs.declared.step.CompareOp.TheVariants as cmp

-- ---- tables and texts by number

abbrev pub Texts : Type 0
Texts = List (List ℕ)

abbrev pub text_at : Texts → ℕ → List ℕ
text_at texts n = unwrap_or (slice_get texts n) []

abbrev pub pairs_in : Option Contents → List (Value × Value)
pairs_in None = []
pairs_in (Some table) = table.pairs

abbrev pub meta_in : Option Contents → Option TableId
meta_in None = None
meta_in (Some table) = table.meta

-- the value of a key in a table, no metatable being asked
abbrev pub raw_get : Heap → ℕ → Value → Value
raw_get heap n key = get_pair (pairs_in (slice_get heap.tables n)) key

-- ---- handlers (section 2.4)

-- the metatable of a value: only tables and strings have one
abbrev pub meta_of : Heap → Value → Option TableId
meta_of heap (V.Table id) = meta_in (slice_get heap.tables id.number)
meta_of heap (V.Str id) = heap.string_meta
meta_of heap v = None

abbrev pub handler_in : Heap → Event → Option TableId → Value
handler_in heap e None = V.Nil
handler_in heap e (Some id) = raw_get heap id.number (event_key e)

-- the field of the value's metatable that has the event's name, nil where there is none
abbrev pub handler : Heap → Event → Value → Value
handler heap e v = handler_in heap e (meta_of heap v)

abbrev pub is_function : Value → Bool
is_function (V.Func id) = true
is_function (V.Lib id) = true
is_function v = false

-- ---- chains

-- what one value of a chain says: the answer, or the value that is asked next
pub data Link (A : Type 0) : Type 0 where
  Ends : Result A LuaFault → Link A
  Goes : Value → Link A

abbrev pub end_or : {A : Type 0} → Link A → (Value → Result A LuaFault) → Result A LuaFault
end_or (Ends answer) go = answer
end_or (Goes next) go = go next

-- the values of a chain are asked one by one, and at most so many of them
abbrev pub chain : {A : Type 0} → (Value → Link A) → ℕ → Value → Result A LuaFault
chain link zero object = Err lua.LongChain
chain link (suc n) object = end_or (link object) (chain link n)

unfoldable pub chain_limit : ℕ
chain_limit = 100

-- without a handler the first answer counts; a function is called; any other handler is asked in
-- the object's place
abbrev pub by_handler : {A : Type 0} → Result A LuaFault → A → Value → Link A
by_handler absent call h =
    if is_nil h then Ends absent else (if is_function h then Ends (Ok call) else Goes h)

abbrev pub not_indexable : {A : Type 0} → Value → Result A LuaFault
not_indexable v = Err (lua.NotIndexable (kind_of v))

-- ---- `object[key]`: the raw value, or `__index` (sections 2.4 and 3.2)

abbrev pub index_by : Heap → Value → Value → Result Step LuaFault → Link Step
index_by heap key object absent =
    let h = handler heap event.Index object in by_handler absent (step.Handler h object key) h

-- a linda or a lane has fields of its own
abbrev pub index_link : Heap → Value → Value → Link Step
index_link heap key (V.Table id) =
    let value = raw_get heap id.number key in
    if is_nil value then index_by heap key (V.Table id) (Ok (step.Raw V.Nil))
    else Ends (Ok (step.Raw value))
index_link heap key (V.Str id) = index_by heap key (V.Str id) (not_indexable (V.Str id))
index_link heap key (V.Linda n) = Ends (Ok (step.Handle (V.Linda n)))
index_link heap key (V.Lane n) = Ends (Ok (step.Handle (V.Lane n)))
index_link heap key object = Ends (not_indexable object)

unfoldable pub index_step : Heap → Value → Value → Result Step LuaFault
index_step heap object key = chain (index_link heap key) chain_limit object

-- ---- `object[key] = value`: a live key is set, or `__newindex` (section 2.4)

abbrev pub set_by : Heap → Value → Result Target LuaFault → Link Target
set_by heap object absent =
    let h = handler heap event.NewIndex object in by_handler absent (target.Handler h object) h

abbrev pub set_link : Heap → Value → Value → Link Target
set_link heap key (V.Table id) =
    if is_nil (raw_get heap id.number key) then set_by heap (V.Table id) (Ok (target.Table id))
    else Ends (Ok (target.Table id))
set_link heap key (V.Str id) = set_by heap (V.Str id) (not_indexable (V.Str id))
set_link heap key object = Ends (not_indexable object)

-- which table is set, or which handler is called
unfoldable pub set_target : Heap → Value → Value → Result Target LuaFault
set_target heap object key = chain (set_link heap key) chain_limit object

-- ---- handlers of two operands: the first operand's, then the second's (section 2.4)

abbrev pub either_handler : Heap → Event → Value → Value → Value
either_handler heap e a b = let h = handler heap e a in if is_nil h then handler heap e b else h

-- the handler is called, and where there is none it is this fault
abbrev pub with_handler : Heap → Event → Value → Value → LuaFault → Result Step LuaFault
with_handler heap e a b fault =
    let h = either_handler heap e a b in
    if is_nil h then Err fault else Ok (step.Handler h a b)

-- ---- arithmetic and bits (sections 3.4.1 to 3.4.3)

abbrev pub event_of : ArithOp → Event
event_of op.Add = event.Add
event_of op.Sub = event.Sub
event_of op.Mul = event.Mul
event_of op.FloorDiv = event.IDiv
event_of op.Mod = event.Mod
event_of op.Neg = event.Unm
event_of op.BitAnd = event.BAnd
event_of op.BitOr = event.BOr
event_of op.BitXor = event.BXor
event_of op.BitNot = event.BNot
event_of op.ShiftLeft = event.Shl
event_of op.ShiftRight = event.Shr

abbrev pub is_bitwise : ArithOp → Bool
is_bitwise op.BitAnd = true
is_bitwise op.BitOr = true
is_bitwise op.BitXor = true
is_bitwise op.BitNot = true
is_bitwise op.ShiftLeft = true
is_bitwise op.ShiftRight = true
is_bitwise o = false

-- the integer that an operand counts as: a string counts in arithmetic alone
abbrev pub operand : Texts → Bool → Value → Option ℤ
operand texts bitwise (V.Int n) = Some n
operand texts false (V.Str id) = integer_of (text_at texts id.number)
operand texts bitwise v = None

abbrev pub unless_zero : ℤ → ℤ → Result ℤ LuaFault
unless_zero (pos zero) n = Err lua.ZeroDivisor
unless_zero divisor n = Ok n

-- an operator of one operand takes the first
abbrev pub computed : ArithOp → ℤ → ℤ → Result ℤ LuaFault
computed op.Add a b = Ok (wrapped (a +ℤ b))
computed op.Sub a b = Ok (wrapped (a -ℤ b))
computed op.Mul a b = Ok (wrapped (a *ℤ b))
computed op.FloorDiv a b = unless_zero b (wrapped (floor_quotient a b))
computed op.Mod a b = unless_zero b (floor_remainder a b)
computed op.Neg a b = Ok (wrapped (neg_ℤ a))
computed op.BitAnd a b = Ok (of_bits (bit_and (bits_of a) (bits_of b)))
computed op.BitOr a b = Ok (of_bits (bit_or (bits_of a) (bits_of b)))
computed op.BitXor a b = Ok (of_bits (bit_xor (bits_of a) (bits_of b)))
computed op.BitNot a b = Ok (of_bits (other_bits (bits_of a)))
computed op.ShiftLeft a b = Ok (shifted_left a b)
computed op.ShiftRight a b = Ok (shifted_right a b)

abbrev pub integer_step : Result ℤ LuaFault → Result Step LuaFault
integer_step (Ok n) = Ok (step.Raw (V.Int n))
integer_step (Err fault) = Err fault

abbrev pub not_number : Bool → Value → LuaFault
not_number false v = lua.NotArith (kind_of v)
not_number true v = lua.NotBits (kind_of v)

-- The fault names the first operand that counts as no integer.
abbrev pub arith_on : Heap → ArithOp → Value → Value → Option ℤ → Option ℤ → Result Step LuaFault
arith_on heap o a b (Some m) (Some n) = integer_step (computed o m n)
arith_on heap o a b (Some m) None =
    with_handler heap (event_of o) a b (not_number (is_bitwise o) b)
arith_on heap o a b None n = with_handler heap (event_of o) a b (not_number (is_bitwise o) a)

-- for an operator of one operand both are that operand
unfoldable pub arith_step : Texts → Heap → ArithOp → Value → Value → Result Step LuaFault
arith_step texts heap o a b =
    let of = operand texts (is_bitwise o) in arith_on heap o a b (of a) (of b)

-- ---- comparison (section 3.4.4)

-- whether a text is before another, byte by byte
abbrev pub text_lt : List ℕ → List ℕ → Bool
text_lt [] [] = false
text_lt [] (y ∷ ys) = true
text_lt (x ∷ xs) [] = false
text_lt (x ∷ xs) (y ∷ ys) =
    if nat_lt x y then true else (if nat_lt y x then false else text_lt xs ys)

-- two integers or two strings are compared themselves
abbrev pub directly_less : Texts → Value → Value → Option Bool
directly_less texts (V.Int a) (V.Int b) = Some (int_lt a b)
directly_less texts (V.Str a) (V.Str b) =
    Some (text_lt (text_at texts a.number) (text_at texts b.number))
directly_less texts a b = None

abbrev pub less_on : Heap → Event → Value → Value → Option Bool → Result Step LuaFault
less_on heap e a b (Some less) = Ok (step.Raw (value_of_bool less))
less_on heap e a b None =
    with_handler heap e a b (lua.NotOrdered (kind_of a) (kind_of b))

-- `a <= b` is that `b < a` isn't so, where both are compared themselves
abbrev pub negated : Option Bool → Option Bool
negated None = None
negated (Some truth) = Some (not truth)

-- `__eq` is asked for two different tables alone
abbrev pub equal_on : Value → Value → Value → Step
equal_on a b h = if is_nil h then step.Raw V.False else step.Handler h a b

abbrev pub equal_step : Heap → Value → Value → Step
equal_step heap (V.Table a) (V.Table b) =
    if value_eq (V.Table a) (V.Table b) then step.Raw V.True
    else equal_on (V.Table a) (V.Table b)
    (either_handler heap event.Eq (V.Table a) (V.Table b))
equal_step heap a b = step.Raw (value_of_bool (value_eq a b))

-- `a ~= b` negates; where a handler is called its caller negates
abbrev pub opposite : Step → Step
opposite (step.Raw V.True) = step.Raw V.False
opposite (step.Raw V.False) = step.Raw V.True
opposite s = s

-- A boolean itself, or the handler whose value is made a boolean; `a > b` is `b < a`, and `a >= b`
-- is `b <= a`.
unfoldable pub compare_step : Texts → Heap → CompareOp → Value → Value → Result Step LuaFault
compare_step texts heap cmp.Eq a b = Ok (equal_step heap a b)
compare_step texts heap cmp.Ne a b = Ok (opposite (equal_step heap a b))
compare_step texts heap cmp.Lt a b = less_on heap event.Lt a b (directly_less texts a b)
compare_step texts heap cmp.Le a b = less_on heap event.Le a b (negated (directly_less texts b a))
compare_step texts heap cmp.Gt a b = less_on heap event.Lt b a (directly_less texts b a)
compare_step texts heap cmp.Ge a b = less_on heap event.Le b a (negated (directly_less texts a b))

-- ---- `a .. b` (section 3.4.6)

-- the text that an operand counts as
abbrev pub piece : Texts → Value → Option (List ℕ)
piece texts (V.Str id) = Some (text_at texts id.number)
piece texts (V.Int n) = Some (signed_decimal n)
piece texts v = None

-- the longest text of a string, in bytes
abbrev pub text_limit : ℕ
text_limit = 67108864

-- a text that is interned then, or a handler
pub data Join : Type 0 where
  Text : List ℕ → Join
  Call : Step → Join

abbrev pub call_join : Result Step LuaFault → Result Join LuaFault
call_join (Ok s) = Ok (Call s)
call_join (Err fault) = Err fault

abbrev pub joined_text : List ℕ → Result Join LuaFault
joined_text text = if nat_lt text_limit (length text) then Err lua.TextTooLong else Ok (Text text)

abbrev pub concat_on : Heap → Value → Value →
    Option (List ℕ) → Option (List ℕ) → Result Join LuaFault
concat_on heap a b (Some x) (Some y) = joined_text (x ++ y)
concat_on heap a b (Some x) None =
    call_join (with_handler heap event.Concat a b (lua.NotConcat (kind_of b)))
concat_on heap a b None y =
    call_join (with_handler heap event.Concat a b (lua.NotConcat (kind_of a)))

unfoldable pub concat_step : Texts → Heap → Value → Value → Result Join LuaFault
concat_step texts heap a b = concat_on heap a b (piece texts a) (piece texts b)

-- ---- `#a` (section 3.4.7)

abbrev pub len_on : Value → Value → Value → Result Step LuaFault
len_on v border h = if is_nil h then Ok (step.Raw border) else Ok (step.Handler h v v)

unfoldable pub len_step : Texts → Heap → Value → Result Step LuaFault
len_step texts heap (V.Str id) = Ok (step.Raw (V.Int (pos (length (text_at texts id.number)))))
len_step texts heap (V.Table id) =
    let border = V.Int (pos (border_of (pairs_in (slice_get heap.tables id.number)))) in
    len_on (V.Table id) border (handler heap event.Len (V.Table id))
len_step texts heap v = Err (lua.NotLength (kind_of v))

-- ---- calls (section 2.4, `__call`)

-- A function is called itself; for another value its handler is called in its place, with the value
-- before the arguments.
abbrev pub called_handler : Value → Value → Result (Option Value) LuaFault
called_handler f h = if is_nil h then Err (lua.NotCallable (kind_of f)) else Ok (Some h)

unfoldable pub callee_step : Heap → Value → Result (Option Value) LuaFault
callee_step heap f = if is_function f then Ok None else called_handler f (handler heap event.Call f)
