-- Calls of values: of functions of the program, of library functions, and by `__call` (Lua 5.4
-- manual, sections 2.4, 3.4.10 and 3.4.11).
use Rattle.std.specs.Prelude.{ℕ, zero, suc, ◌+◌, length, drop, take, List, [], ◌∷◌, Result, Ok, Err, Option, Some, None, Bool, true, false, if◌then◌else◌, ◌&&◌, nat_le, nat_eq, slice_get}
use Rattle.lanes_arena.specs.declared.code.Code.{Code}
use Rattle.lanes_arena.specs.declared.code.Code.TheVariants as code
use Rattle.lua_program.specs.declared.program.Proto.{Proto}
use Rattle.object_store.specs.declared.kind.Kind.TheVariants as kind
use Rattle.object_store.specs.declared.state.Function.{Function}
use Rattle.object_store.specs.declared.value.Value.{Value}
use Rattle.object_store.specs.declared.value.Value.TheVariants as V
use Rattle.object_store.specs.declared.fault.LuaFault.{LuaFault}
use Rattle.object_store.specs.declared.fault.LuaFault.TheVariants as lua
use Rattle.object_store.specs.Heap.{Heap}
use Rattle.lua_ops.specs.Metamethods.{callee_step, chain_limit}
use Rattle.lua_meaning.specs.declared.fault.Fault.{Fault}
use Rattle.lua_meaning.specs.declared.fault.Fault.TheVariants as F
use Rattle.lua_meaning.specs.declared.fault.Site.{Site}
use Rattle.lua_meaning.specs.Run.{Run, World, Next, and_then}
use Rattle.lua_meaning.specs.Level.{Loaded, Level, Frame, Locals, Flow, Goes, Breaks, Jumps, Returns, or_broken}
use Rattle.lua_meaning.specs.Names.{filled}
use Rattle.lua_meaning.specs.Faults.{fault_at}
use Rattle.lua_meaning.specs.Expressions.{limited}
use Rattle.lua_meaning.specs.Statements.{block, in_cell, with_locals}
use Rattle.lua_meaning.specs.Library.{function_of, library_call}

-- what a body's flow gives; a body that doesn't return gives no values
abbrev pub returned : Next (List Value) → Next Flow
returned k (Ok (Goes locals)) w = k (Ok []) w
returned k (Ok (Returns vs)) w = k (Ok vs) w
returned k (Ok (Breaks locals)) w = k (Err F.Broken) w
returned k (Ok (Jumps m n locals)) w = k (Err F.Broken) w
returned k (Err e) w = k (Err e) w

-- ---- the start of a body

abbrev pub frame_of : Proto → ℕ → ℕ → List Value → Frame
frame_of proto me from args = record {
  me = me;
  from = from;
  dots = if proto.vararg then drop proto.params args else [];
  locals = record { slots = filled proto.slots (take proto.params args); cells = [] };
}

module _ (p : Loaded) (line : ℕ) where
  -- a parameter that an inner function names has a cell; for a cell too many the call has a fault
  abbrev pub param_cell : ℕ → Result Value Fault → Frame → World → Next Locals → Run
  param_cell i (Err e) f w k = k (Err e) w
  param_cell i (Ok v) f w k = in_cell (fault_at p line lua.Full) i v f w k

  abbrev pub param_cells : ℕ → List Bool → Frame → World → Next Locals → Run
  param_cells i [] f w k = k (Ok f.locals) w
  param_cells i (false ∷ cs) f w k = param_cells (suc i) cs f w k
  param_cells i (true ∷ cs) f w k =
      param_cell i (or_broken (slice_get f.locals.slots i)) f w (and_then k (λ locals w.
      param_cells (suc i) cs (with_locals f locals) w k))

-- ---- calls

-- A function of the state is one of the program where its body is there, and it has as many cells
-- as the body has upvalues.
abbrev pub is_sound : Function → Proto → Bool
is_sound function proto = nat_eq (length function.cells) (length proto.ups) && nat_le proto.params
    proto.slots

abbrev pub if_sound : Function → Option Proto → Option Proto
if_sound function None = None
if_sound function (Some proto) = if is_sound function proto then Some proto else None

abbrev pub body_by : Loaded → Function → Code → Option Proto
body_by p function (code.Script n) = if_sound function (slice_get p.program.protos n)
body_by p function c = None

abbrev pub body_of : Loaded → Option Function → Option Proto
body_of p None = None
body_of p (Some function) = body_by p function function.code

module _ (p : Loaded) (l : Level) (site : Site) where
  abbrev pub run_proto : ℕ → Option Proto → List Value → World → Next (List Value) → Run
  run_proto me None args w k = fault_at p site.line (lua.NotCallable kind.Function) w k
  run_proto me (Some proto) args w k =
      let f = frame_of proto me site.line args in
      param_cells p site.line 0 proto.cells f w (and_then k (λ locals w.
      block l proto.body (with_locals f locals) w (returned k)))

  abbrev pub function_call : Value → List Value → World → Next (List Value) → Run
  function_call (V.Func id) args w k = run_proto id.number (body_of p (slice_get
      w.store.heap.functions id.number)) args w k
  function_call (V.Lib id) args w k = library_call p l site (function_of id.number) args w k
  function_call v args w k = k (Err F.Broken) w

-- the function that is called in a value's place, and its arguments: the handler `__call` has the
-- value before them
abbrev pub callee_then : Result (Option Value) LuaFault → Value → List Value → (Value →
    Result (Value × List Value) LuaFault) → Result (Value × List Value) LuaFault
callee_then (Ok None) v args go = Ok (v, args)
callee_then (Ok (Some h)) v args go = go h
callee_then (Err fault) v args go = Err fault

abbrev pub callee_of : Heap → ℕ → Value → List Value → Result (Value × List Value) LuaFault
callee_of heap zero v args = Err lua.LongChain
callee_of heap (suc n) v args = callee_then (callee_step heap v) v args (λ h. callee_of heap n h (v
    ∷ args))

module _ (p : Loaded) (l : Level) (site : Site) where
  abbrev pub by_handler : Result (Value × List Value) LuaFault → World → Next (List Value) → Run
  by_handler (Err fault) w k = fault_at p site.line fault w k
  by_handler (Ok callee) w k =
      limited p site.line callee.1 w (and_then k (λ args w. function_call p l site callee.0 args w
      k))

  abbrev pub call_on : Value → List Value → World → Next (List Value) → Run
  call_on (V.Func id) args w k = function_call p l site (V.Func id) args w k
  call_on (V.Lib id) args w k = function_call p l site (V.Lib id) args w k
  call_on v args w k = by_handler (callee_of w.store.heap chain_limit v args) w k
