-- Operators (Lua 5.4 manual, sections 2.4 and 3.4), over the parts of the level below. A handler is
-- called by no call expression.
use Rattle.std.specs.Prelude.{ℕ, ◌+◌, ◌++◌, List, [], ◌∷◌, Result, Ok, Err, Option, Some, None, Bool, true, false, not, if◌then◌else◌, slice_get, slice_set}
use Rattle.lua_tree.specs.declared.operator.Binary.{Binary}
use Rattle.lua_tree.specs.declared.operator.Binary.TheVariants as B
use Rattle.lua_tree.specs.declared.operator.Unary.{Unary}
use Rattle.lua_tree.specs.declared.operator.Unary.TheVariants as U
use Rattle.object_store.specs.declared.value.Value.{Value}
use Rattle.object_store.specs.declared.value.Value.TheVariants as V
use Rattle.object_store.specs.declared.fault.LuaFault.{LuaFault}
use Rattle.object_store.specs.declared.fault.LuaFault.TheVariants as lua
use Rattle.object_store.specs.Value.{TableId, is_nil, value_of_bool}
use Rattle.lua_ops.specs.declared.step.Step.{Step}
use Rattle.lua_ops.specs.declared.step.Step.TheVariants as step
use Rattle.lua_ops.specs.declared.step.Target.{Target}
use Rattle.lua_ops.specs.declared.step.Target.TheVariants as target
use Rattle.lua_ops.specs.declared.step.ArithOp.{ArithOp}
use Rattle.lua_ops.specs.declared.step.ArithOp.TheVariants as op
use Rattle.lua_ops.specs.declared.step.CompareOp.{CompareOp}
use Rattle.lua_ops.specs.declared.step.CompareOp.TheVariants as cmp
use Rattle.lua_ops.specs.Metamethods.{index_step, set_target, arith_step, compare_step, concat_step, len_step, Join, Text, Call}
use Rattle.object_store.specs.Table.{Contents}
use Rattle.object_store.specs.Heap.{Heap}
use Rattle.object_store.specs.Pairs.{set_pair}
use Rattle.lanes_lib.specs.Face.{member}
use Rattle.lua_meaning.specs.declared.fault.Site.{Site}
use Rattle.lua_meaning.specs.Run.{Run, World, Next, and_then, written, with_heap, interned}
use Rattle.lua_meaning.specs.Level.{Loaded, Level}
use Rattle.lua_meaning.specs.Names.{is_true, first}
use Rattle.lua_meaning.specs.Faults.{fault_at}
use Rattle.lua_meaning.specs.declared.fault.Fault.TheVariants as F

abbrev pub with_pair_in : Option Contents → Heap → ℕ → Value → Value → Heap
with_pair_in None heap n key v = heap
with_pair_in (Some table) heap n key v =
    record heap {
      tables = slice_set heap.tables n (record table {
        pairs =
            set_pair table.pairs key v;
      });
    }

-- a key of the table of this number is set
abbrev pub put : TableId → Value → Value → World → Next (Unit {0}) → Run
put id key v w k =
    let heap = w.store.heap in
    written (with_heap w.store (with_pair_in (slice_get heap.tables id.number) heap id.number key
    v)) tt w k

-- a nil key is a fault of this line
abbrev pub raw_set : Loaded → ℕ → TableId → Value → Value → World → Next (Unit {0}) → Run
raw_set p line id key v w k =
    if is_nil key then fault_at p line lua.NilKey w k else put id key v w k

-- what a comparison gives by the value of a handler
abbrev pub decided : CompareOp → Bool → Value
decided cmp.Ne truth = value_of_bool (not truth)
decided o truth = value_of_bool truth

-- `line` is that of the operator's expression, and `from` the site of the calls that it makes.
module _ (p : Loaded) (l : Level) (line : ℕ) (from : Site) where
  -- the first value of a call of a handler
  abbrev pub handled : Value → List Value → World → Next Value → Run
  handled h args w k = l.call h args from w (and_then k (λ vs w. k (Ok (first vs)) w))

  -- ---- arithmetic, bits, length

  abbrev pub on_step : Result Step LuaFault → World → Next Value → Run
  on_step (Ok (step.Raw v)) w k = k (Ok v) w
  on_step (Ok (step.Handler h a b)) w k = handled h (a ∷ b ∷ []) w k
  on_step (Ok (step.Handle v)) w k = k (Err F.Broken) w
  on_step (Err fault) w k = fault_at p line fault w k

  abbrev pub arith : ArithOp → Value → Value → World → Next Value → Run
  arith o a b w k = on_step (arith_step w.store.texts w.store.heap o a b) w k

  -- ---- comparison: the value of a handler is made a boolean, and `~=` negates it

  unfoldable pub decided_by : CompareOp → Value → Value → Value → World → Next Value → Run
  decided_by o h a b w k =
      handled h (a ∷ b ∷ []) w (and_then k (λ v w. k (Ok (decided o (is_true v))) w))

  abbrev pub on_compare : CompareOp → Result Step LuaFault → World → Next Value → Run
  on_compare o (Ok (step.Raw v)) w k = k (Ok v) w
  on_compare o (Ok (step.Handler h a b)) w k = decided_by o h a b w k
  on_compare o (Ok (step.Handle v)) w k = k (Err F.Broken) w
  on_compare o (Err fault) w k = fault_at p line fault w k

  abbrev pub compare : CompareOp → Value → Value → World → Next Value → Run
  compare o a b w k = on_compare o (compare_step w.store.texts w.store.heap o a b) w k

  -- ---- concatenation

  abbrev pub on_join : Result Join LuaFault → World → Next Value → Run
  on_join (Ok (Text text)) w k = interned text w k
  on_join (Ok (Call s)) w k = on_step (Ok s) w k
  on_join (Err fault) w k = fault_at p line fault w k

  abbrev pub concat : Value → Value → World → Next Value → Run
  concat a b w k = on_join (concat_step w.store.texts w.store.heap a b) w k

  -- ---- by the sign of the operator

  abbrev pub binary : Binary → Value → Value → World → Next Value → Run
  binary B.Lt a b w k = compare cmp.Lt a b w k
  binary B.Gt a b w k = compare cmp.Gt a b w k
  binary B.Le a b w k = compare cmp.Le a b w k
  binary B.Ge a b w k = compare cmp.Ge a b w k
  binary B.Ne a b w k = compare cmp.Ne a b w k
  binary B.Eq a b w k = compare cmp.Eq a b w k
  binary B.BitOr a b w k = arith op.BitOr a b w k
  binary B.BitXor a b w k = arith op.BitXor a b w k
  binary B.BitAnd a b w k = arith op.BitAnd a b w k
  binary B.ShiftLeft a b w k = arith op.ShiftLeft a b w k
  binary B.ShiftRight a b w k = arith op.ShiftRight a b w k
  binary B.Concat a b w k = concat a b w k
  binary B.Add a b w k = arith op.Add a b w k
  binary B.Sub a b w k = arith op.Sub a b w k
  binary B.Mul a b w k = arith op.Mul a b w k
  binary B.FloorDiv a b w k = arith op.FloorDiv a b w k
  binary B.Mod a b w k = arith op.Mod a b w k

  abbrev pub unary : Unary → Value → World → Next Value → Run
  unary U.Not v w k = k (Ok (value_of_bool (not (is_true v)))) w
  unary U.Len v w k = on_step (len_step w.store.texts w.store.heap v) w k
  unary U.Neg v w k = arith op.Neg v v w k
  unary U.BitNot v w k = arith op.BitNot v v w k

  -- ---- `object[key]`, which of a linda or a lane is a field of the handle

  abbrev pub on_index : Value → Result Step LuaFault → World → Next Value → Run
  on_index key (Ok (step.Raw v)) w k = k (Ok v) w
  on_index key (Ok (step.Handler h a b)) w k = handled h (a ∷ b ∷ []) w k
  on_index key (Ok (step.Handle v)) w k = k (Ok (member w.store.texts v key)) w
  on_index key (Err fault) w k = fault_at p line fault w k

  abbrev pub index : Value → Value → World → Next Value → Run
  index object key w k = on_index key (index_step w.store.heap object key) w k

  -- ---- `object[key] = value`

  abbrev pub set_handled : Value → Value → Value → Value → World → Next (Unit {0}) → Run
  set_handled h object key v w k =
      l.call h (object ∷ key ∷ v ∷ []) from w (and_then k (λ vs w. k (Ok tt) w))

  abbrev pub on_set : Value → Value → Result Target LuaFault → World → Next (Unit {0}) → Run
  on_set key v (Ok (target.Table id)) w k = raw_set p line id key v w k
  on_set key v (Ok (target.Handler h object)) w k = set_handled h object key v w k
  on_set key v (Err fault) w k = fault_at p line fault w k

  abbrev pub set : Value → Value → Value → World → Next (Unit {0}) → Run
  set object key v w k = on_set key v (set_target w.store.heap object key) w k
