-- What `object[key] = value` does where it sets a table (Lua 5.4 manual, sections 2.1 and 2.4).
use Rattle.std.specs.Prelude.{ℕ, Option, Some, None, Result, Ok, Err, Bool, false, not, ◌&&◌, if◌then◌else◌, slice_get, is_none}
use Rattle.object_store.specs.declared.value.Value.{Value}
use Rattle.object_store.specs.declared.fault.LuaFault.{LuaFault}
use Rattle.object_store.specs.declared.fault.LuaFault.TheVariants as lua
use Rattle.object_store.specs.Value.{is_nil}
use Rattle.object_store.specs.Pairs.{set_pair, has_pair}
use Rattle.object_store.specs.Table.{Contents}
use Rattle.object_store.specs.Heap.{Heap, Shown, with_table}
use Rattle.lua_ops.specs.declared.step.SetStep.{SetStep}
use Rattle.lua_ops.specs.declared.step.SetStep.TheVariants as set
use Rattle.lua_ops.specs.declared.step.Target.{Target}
use Rattle.lua_ops.specs.declared.step.Target.TheVariants as target
use Rattle.lua_ops.specs.Metamethods.{pairs_in, meta_in, set_target}

-- the table has no metatable
abbrev pub is_plain : Heap → ℕ → Bool
is_plain heap n = is_none (meta_in (slice_get heap.tables n))

-- the state once the table of this number has the pair; where there is no such table nothing
-- changes
abbrev pub with_pair_of : Option Contents → Shown → ℕ → Value → Value → Shown
with_pair_of None shown n key v = shown
with_pair_of (Some table) shown n key v =
    with_table shown n (record table { pairs = set_pair table.pairs key v })

abbrev pub with_pair : Shown → ℕ → Value → Value → Shown
with_pair shown n key v = with_pair_of (slice_get shown.heap.tables n) shown n key v

-- a pair is added, which may want memory: neither key nor value is nil, and the key has no pair
abbrev pub adds_pair : Heap → ℕ → Value → Value → Bool
adds_pair heap n key v =
    not (is_nil key) && not (is_nil v) && not (has_pair (pairs_in (slice_get heap.tables n)) key)

-- ---- what a call answers and does

abbrev pub answer_by : Result Target LuaFault → Value → Result SetStep LuaFault
answer_by (Ok (target.Table id)) key = if is_nil key then Err lua.NilKey else Ok set.Done
answer_by (Ok (target.Handler h object)) key = Ok (set.Handler h object)
answer_by (Err fault) key = Err fault

abbrev pub answer : Heap → Value → Value → Result SetStep LuaFault
answer heap object key = answer_by (set_target heap object key) key

abbrev pub after_by : Shown → Result Target LuaFault → Value → Value → Shown
after_by shown (Ok (target.Table id)) key v = with_pair shown id.number key v
after_by shown other key v = shown

-- the state after a call that isn't refused
abbrev pub after : Shown → Value → Value → Value → Shown
after shown object key v = after_by shown (set_target shown.heap object key) key v

abbrev pub adds_by : Heap → Result Target LuaFault → Value → Value → Bool
adds_by heap (Ok (target.Table id)) key v = adds_pair heap id.number key v
adds_by heap other key v = false

-- whether the call adds a pair
abbrev pub adds : Heap → Value → Value → Value → Bool
adds heap object key v = adds_by heap (set_target heap object key) key v
