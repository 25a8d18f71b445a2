-- Expressions (Lua 5.4 manual, section 3.4), by what stands on the level below. Parts are evaluated
-- from left to right.
use Rattle.std.specs.Prelude.{ℕ, ◌+◌, length, List, [], ◌∷◌, ◌++◌, Result, Ok, Err, Option, Some, None, Bool, true, false, if◌then◌else◌, nat_lt, nat_le, slice_get, ℤ, pos, ◌+ℤ◌}
use Rattle.int_ops.specs.Wrapping.{wrapped}
use Rattle.lanes_arena.specs.declared.code.Code.TheVariants as code
use Rattle.lua_program.specs.declared.expr.RExpr.{RExpr, out-RExpr}
use Rattle.lua_program.specs.declared.expr.RExprKind.{RExprKind, out-RExprKind}
use Rattle.lua_program.specs.declared.expr.RExprKind.TheOpen as E
use Rattle.lua_program.specs.declared.expr.RPair.{RPair, out-RPair}
use Rattle.lua_program.specs.declared.expr.RField.{RField, out-RField}
use Rattle.lua_program.specs.declared.expr.Ref.{Ref}
use Rattle.lua_program.specs.declared.expr.Ref.TheVariants as R
use Rattle.lua_program.specs.declared.program.Proto.{Proto}
use Rattle.object_store.specs.declared.state.Function.{Function}
use Rattle.object_store.specs.declared.value.Value.{Value}
use Rattle.object_store.specs.declared.value.Value.TheVariants as V
use Rattle.object_store.specs.declared.fault.LuaFault.TheVariants as lua
use Rattle.object_store.specs.Value.{TableId, is_nil}
use Rattle.object_store.specs.Heap.{Heap}
use Rattle.lua_meaning.specs.declared.fault.Fault.{Fault}
use Rattle.lua_meaning.specs.declared.fault.Fault.TheVariants as F
use Rattle.lua_meaning.specs.Run.{Run, World, Next, and_then, written, with_heap}
use Rattle.lua_meaning.specs.Level.{Loaded, Level, Frame, CellId, or_broken, no_site, site_at}
use Rattle.lua_meaning.specs.Names.{is_true, first, filled, local_value, captures, has_numbers}
use Rattle.lua_meaning.specs.Faults.{fault_at}
use Rattle.lua_meaning.specs.Operate.{binary, unary, index, put, raw_set}

-- ---- lists of expressions (section 3.4.12)

-- further values of a list of expressions, of which the last gives all its values
abbrev pub list : Level → List Value → List RExpr → Frame → World → Next (List Value) → Run
list l vs [] f w k = k (Ok vs) w
list l vs (e ∷ []) f w k = l.multi e f w (and_then k (λ us w. k (Ok (vs ++ us)) w))
list l vs (e ∷ d ∷ es) f w k =
    l.expr e f w (and_then k (λ v w. list l (vs ++ v ∷ []) (d ∷ es) f w k))

-- Exactly n values of a list, of which the last gives as many as are wanted (sections 3.3.3 and
-- 3.3.7).
abbrev pub exactly : Level → ℕ → List Value → List RExpr → Frame → World → Next (List Value) → Run
exactly l n vs [] f w k = k (Ok (filled n vs)) w
exactly l n vs (e ∷ []) f w k =
    if nat_le n (length vs + 1) then l.expr e f w (and_then k (λ v w. k (Ok (filled n (vs ++ v ∷
    []))) w))
    else l.multi e f w (and_then k (λ us w. k (Ok (filled n (vs ++ us))) w))
exactly l n vs (e ∷ d ∷ es) f w k =
    l.expr e f w (and_then k (λ v w. exactly l n (vs ++ v ∷ []) (d ∷ es) f w k))

-- how many arguments or results a call may have
abbrev pub value_limit : ℕ
value_limit = 1048576

-- the values of a call, unless they are too many; the fault is of this line
abbrev pub limited : Loaded → ℕ → List Value → World → Next (List Value) → Run
limited p line vs w k =
    if nat_lt value_limit (length vs) then fault_at p line lua.TooManyValues w k else k (Ok vs) w

-- the table of the globals (section 2.2)
abbrev pub globals : Value
globals = V.Table (record { number = 0; kind = record {} })

-- the string of a text of the program
abbrev pub key_at : Loaded → ℕ → Result Value Fault
key_at p place = or_broken (slice_get p.keys place)

module _ (p : Loaded) (l : Level) (f : Frame) (line : ℕ) where
  -- ---- names (section 3.2): a global is a field of the table of globals

  -- `object[key]` by the place of the key's text
  abbrev pub field : Value → Result Value Fault → World → Next Value → Run
  field object (Ok key) w k = index p l line (no_site f) object key w k
  field object (Err e) w k = k (Err e) w

  abbrev pub name : Ref → World → Next Value → Run
  name (R.Slot i) w k = k (local_value w.store.heap f (R.Slot i)) w
  name (R.CellSlot i) w k = k (local_value w.store.heap f (R.CellSlot i)) w
  name (R.Up j) w k = k (local_value w.store.heap f (R.Up j)) w
  name (R.Global t) w k = field globals (key_at p t.place) w k

  -- ---- calls (section 3.4.10): the function first, then its arguments

  abbrev pub invoked : Value → List Value → World → Next (List Value) → Run
  invoked v args w k = limited p line args w (and_then k (λ args w. l.call v args (site_at line f) w
      k))

  abbrev pub called : RExpr → List RExpr → World → Next (List Value) → Run
  called e es w k =
      l.expr e f w (and_then k (λ v w. list l [] es f w (and_then k (λ args w. invoked v args w
      k))))

  -- `object:name(...)` evaluates the object once, and gives it as the first argument
  abbrev pub method : RExpr → ℕ → List RExpr → World → Next (List Value) → Run
  method e place es w k =
      l.expr e f w (and_then k (λ object w. field object (key_at p place) w (and_then k (λ v w.
      list l (object ∷ []) es f w (and_then k (λ args w. invoked v args w k))))))

  -- ---- functions (section 3.4.11)

  abbrev pub with_function : Heap → ℕ → List CellId → Heap
  with_function heap n cells =
      let made : Function = record { code = code.Script n; cells = cells } in
      record heap { functions = heap.functions ++ made ∷ [] }

  abbrev pub new_function : ℕ → Option (List CellId) → World → Next Value → Run
  new_function n None w k = k (Err F.Broken) w
  new_function n (Some cells) w k =
      if has_numbers w.store.heap 0 1 0 then
      written (with_heap w.store (with_function w.store.heap n cells))
      (V.Func (record { number = length w.store.heap.functions; kind = record {} })) w k
      else fault_at p line lua.Full w k

  abbrev pub closure : ℕ → Option Proto → World → Next Value → Run
  closure n None w k = k (Err F.Broken) w
  closure n (Some proto) w k = new_function n (captures w.store.heap f proto.ups) w k

  abbrev pub function : ℕ → World → Next Value → Run
  function n w k = closure n (slice_get p.program.protos n) w k

  -- ---- table constructors (section 3.4.9): the table first, then its fields in order, set raw

  abbrev pub with_table : Heap → Heap
  with_table heap =
      record heap { tables = heap.tables ++ (record { pairs = []; meta = None }) ∷ [] }

  abbrev pub new_table : World → Next TableId → Run
  new_table w k =
      if has_numbers w.store.heap 1 0 0 then
      written (with_heap w.store (with_table w.store.heap)) (record {
        number =
            length w.store.heap.tables;
        kind = record {};
      }) w k
      else fault_at p line lua.Full w k

  abbrev pub next_item : ℤ → ℤ
  next_item i = wrapped (i +ℤ pos 1)

  abbrev pub items : TableId → ℤ → List Value → World → Next (Unit {0}) → Run
  items id i [] w k = k (Ok tt) w
  items id i (v ∷ vs) w k =
      put id (V.Int i) v w (and_then k (λ u w. items id (next_item i) vs w k))

  abbrev pub set_value : TableId → Value → RExpr → World → Next (Unit {0}) → Run
  set_value id key e w k = l.expr e f w (and_then k (λ v w. raw_set p line id key v w k))

  abbrev pub set_named : TableId → Result Value Fault → RExpr → World → Next (Unit {0}) → Run
  set_named id (Ok key) e w k = set_value id key e w k
  set_named id (Err fault) e w k = k (Err fault) w

  -- one field, and the number of the next item
  abbrev pub set_field : TableId → ℤ → E.RField-F RExprKind RField RExpr RPair → World → Next ℤ →
      Run
  set_field id i (E.Item e) w k =
      set_value id (V.Int i) e w (and_then k (λ u w. k (Ok (next_item i)) w))
  set_field id i (E.Named n place e) w k =
      set_named id (key_at p place) e w (and_then k (λ u w. k (Ok i) w))
  set_field id i (E.Keyed a e) w k =
      l.expr a f w (and_then k (λ key w. set_value id key e w (and_then k (λ u w. k (Ok i) w))))

  -- the last field, which as an item gives all its values
  abbrev pub last_field : TableId → ℤ → E.RField-F RExprKind RField RExpr RPair → World →
      Next (Unit {0}) → Run
  last_field id i (E.Item e) w k = l.multi e f w (and_then k (λ vs w. items id i vs w k))
  last_field id i (E.Named n place e) w k = set_named id (key_at p place) e w k
  last_field id i (E.Keyed a e) w k = l.expr a f w (and_then k (λ key w. set_value id key e w k))

  abbrev pub fields : TableId → ℤ → List RField → World → Next (Unit {0}) → Run
  fields id i [] w k = k (Ok tt) w
  fields id i (d ∷ []) w k = last_field id i (out-RField d) w k
  fields id i (d ∷ c ∷ ds) w k =
      set_field id i (out-RField d) w (and_then k (λ i w. fields id i (c ∷ ds) w k))

  abbrev pub constructed : List RField → World → Next Value → Run
  constructed ds w k =
      new_table w (and_then k (λ id w. fields id (pos 1) ds w (and_then k (λ u w. k (Ok (V.Table
      id)) w))))

  -- ---- operators: both operands first, but `and` and `or` give one of theirs (section 3.4.5)

  abbrev pub operated : E.RPair-F RExprKind RField RExpr RPair → (Value → Value → World →
      Next Value → Run) → World → Next Value → Run
  operated two go w k = l.expr two.left f w (and_then k (λ a w. l.expr two.right f w (and_then k (λ
      b w. go a b w k))))

  abbrev pub either : Bool → E.RPair-F RExprKind RField RExpr RPair → World → Next Value → Run
  either stops two w k =
      l.expr two.left f w (and_then k (λ a w.
      if (if stops then is_true a else (if is_true a then false else true)) then k (Ok a) w else
      l.expr two.right f w k))

  -- ---- by form

  abbrev pub expr_on : E.RExprKind-F RExprKind RField RExpr RPair → World → Next Value → Run
  expr_on E.Nil w k = k (Ok V.Nil) w
  expr_on E.True w k = k (Ok V.True) w
  expr_on E.False w k = k (Ok V.False) w
  expr_on (E.Int n) w k = k (Ok (V.Int n)) w
  expr_on (E.Text t place) w k = k (key_at p place) w
  expr_on (E.Dots place) w k = k (Ok (first f.dots)) w
  expr_on (E.Name r place) w k = name r w k
  expr_on (E.Index two) w k = operated (out-RPair two) (index p l line (no_site f)) w k
  expr_on (E.Call e es) w k = called e es w (and_then k (λ vs w. k (Ok (first vs)) w))
  expr_on (E.Method e t es) w k = method e t.place es w (and_then k (λ vs w. k (Ok (first vs)) w))
  expr_on (E.Function n) w k = function n w k
  expr_on (E.Binary o two) w k = operated (out-RPair two) (binary p l line (no_site f) o) w k
  expr_on (E.Unary o e) w k = l.expr e f w (and_then k (λ v w. unary p l line (no_site f) o v w k))
  expr_on (E.And two) w k = either false (out-RPair two) w k
  expr_on (E.Or two) w k = either true (out-RPair two) w k
  expr_on (E.Paren e) w k = l.expr e f w k
  expr_on (E.Table ds) w k = constructed ds w k

  -- all values of an expression
  abbrev pub multi_on : E.RExprKind-F RExprKind RField RExpr RPair → World → Next (List Value) → Run
  multi_on (E.Dots place) w k = k (Ok f.dots) w
  multi_on (E.Call e es) w k = called e es w k
  multi_on (E.Method e t es) w k = method e t.place es w k
  multi_on e w k = expr_on e w (and_then k (λ v w. k (Ok (v ∷ [])) w))
