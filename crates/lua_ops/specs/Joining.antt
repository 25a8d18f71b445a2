-- What `a .. b` does where it makes a text (Lua 5.4 manual, section 3.4.6).
use Rattle.std.specs.Prelude.{Result, Ok, Err, Bool, true, false}
use Rattle.lanes_arena.specs.Names.{named, number_of}
use Rattle.object_store.specs.declared.value.Value.{Value}
use Rattle.object_store.specs.declared.value.Value.TheVariants as V
use Rattle.object_store.specs.declared.fault.LuaFault.{LuaFault}
use Rattle.object_store.specs.Heap.{Shown}
use Rattle.lua_ops.specs.declared.step.Step.{Step}
use Rattle.lua_ops.specs.declared.step.Step.TheVariants as step
use Rattle.lua_ops.specs.Metamethods.{Texts, Join, Text, Call, concat_step}

abbrev pub answer_by : Texts → Result Join LuaFault → Result Step LuaFault
answer_by texts (Ok (Text text)) = Ok (step.Raw (V.Str (record { number = number_of texts text })))
answer_by texts (Ok (Call s)) = Ok s
answer_by texts (Err fault) = Err fault

-- a text is answered as the string that it is once it is interned
abbrev pub answer : Shown → Value → Value → Result Step LuaFault
answer shown a b = answer_by shown.texts (concat_step shown.texts shown.heap a b)

abbrev pub texts_by : Texts → Result Join LuaFault → Texts
texts_by texts (Ok (Text text)) = named texts text
texts_by texts other = texts

-- the texts after a call that isn't refused
abbrev pub texts_after : Shown → Value → Value → Texts
texts_after shown a b = texts_by shown.texts (concat_step shown.texts shown.heap a b)

abbrev pub makes_text_by : Result Join LuaFault → Bool
makes_text_by (Ok (Text text)) = true
makes_text_by other = false

-- whether a text is made
abbrev pub makes_text : Shown → Value → Value → Bool
makes_text shown a b = makes_text_by (concat_step shown.texts shown.heap a b)
