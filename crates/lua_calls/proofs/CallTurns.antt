-- Calls of values of any kind.
use Rattle.std.proofs.Common.{◌≡◌, ℕ, Result, Ok, Err, List, refl, sym}
use Rattle.lanes_arena.specs.declared.id.Id.{Id}
use Rattle.object_store.specs.declared.value.Functions.{Functions}
use Rattle.object_store.specs.declared.value.LibId.{LibId}
use Rattle.object_store.specs.declared.value.Value.{Value}
use Rattle.object_store.specs.declared.value.Value.TheVariants as V
use Rattle.object_store.specs.declared.fault.LuaFault.{LuaFault}
use Rattle.object_store.specs.declared.fault.LuaFault.TheVariants as lua
use Rattle.lua_ops.specs.Metamethods.{chain_limit}
use Rattle.lua_meaning.specs.declared.fault.Fault.TheVariants as F
use Rattle.lua_meaning.specs.declared.fault.Site.{Site}
use Rattle.lua_meaning.specs.Run.{World, Run, Next, and_then}
use Rattle.lua_meaning.specs.Level.{Loaded, Level}
use Rattle.lua_meaning.specs.Faults.{fault_at}
use Rattle.lua_meaning.specs.Expressions.{limited}
use Rattle.lua_meaning.specs.Calls.{function_call, call_on, by_handler, callee_of}
use Rattle.lua_calls.specs.Callees.{callee_or_fault}

-- a fault passes by what follows a part
pub fault_passed : {A B : Type 0} (p : Loaded) (line : ℕ) (fault : LuaFault) (w : World) (k : Next B) (go : A → World → Run) → fault_at p line fault w (and_then k go) ≡ fault_at p line fault w k
fault_passed p line lua.Memory w k go = refl
fault_passed p line lua.Full w k go = refl
fault_passed p line lua.ZeroDivisor w k go = refl
fault_passed p line lua.NotInteger w k go = refl
fault_passed p line lua.ZeroStep w k go = refl
fault_passed p line lua.NilKey w k go = refl
fault_passed p line lua.DeadKey w k go = refl
fault_passed p line lua.LongChain w k go = refl
fault_passed p line lua.BadItem w k go = refl
fault_passed p line lua.OpenSet w k go = refl
fault_passed p line lua.BadCapture w k go = refl
fault_passed p line lua.EndsWithPercent w k go = refl
fault_passed p line lua.TooManyItems w k go = refl
fault_passed p line lua.BadPosition w k go = refl
fault_passed p line lua.TextTooLong w k go = refl
fault_passed p line lua.NoModule w k go = refl
fault_passed p line lua.BadFormat w k go = refl
fault_passed p line lua.BadKey w k go = refl
fault_passed p line lua.NoData w k go = refl
fault_passed p line lua.BadCount w k go = refl
fault_passed p line lua.BadOption w k go = refl
fault_passed p line lua.TooManyValues w k go = refl
fault_passed p line lua.BadToString w k go = refl
fault_passed p line lua.Protected w k go = refl
fault_passed p line (lua.NotCallable a) w k go = refl
fault_passed p line (lua.NotIndexable a) w k go = refl
fault_passed p line (lua.NotArith a) w k go = refl
fault_passed p line (lua.NotBits a) w k go = refl
fault_passed p line (lua.NotConcat a) w k go = refl
fault_passed p line (lua.NotLength a) w k go = refl
fault_passed p line (lua.NotOrdered a b) w k go = refl
fault_passed p line (lua.BadArgument a b) w k go = refl

module _ (p : Loaded) (l : Level) (site : Site) (w : World) (k : Next (List Value)) where
  -- what is done with a function and its arguments
  abbrev pub called_with : (Value × List Value) → World → Run
  called_with callee w = limited p site.line callee.1 w (and_then k (λ args w. function_call p l site callee.0 args w k))

  pub handled_by : (r : Result (Value × List Value) LuaFault) → by_handler p l site r w k ≡ callee_or_fault p site.line r w (and_then k called_with)
  handled_by (Ok callee) = refl
  handled_by (Err fault) = sym (fault_passed p site.line fault w k called_with)

  pub no_function : (args : List Value) (v : Value) → ((id : Id Functions) → v ≡ V.Func id → ⊥) → ((id : LibId) → v ≡ V.Lib id → ⊥) → function_call p l site v args w k ≡ k (Err F.Broken) w
  no_function args V.Nil f b = refl
  no_function args V.False f b = refl
  no_function args V.True f b = refl
  no_function args (V.Int x) f b = refl
  no_function args (V.Str x) f b = refl
  no_function args (V.Table x) f b = refl
  no_function args (V.Func x) f b = absurd (f x refl)
  no_function args (V.Lib x) f b = absurd (b x refl)
  no_function args (V.Linda x) f b = refl
  no_function args (V.Lane x) f b = refl
  no_function args (V.Light x) f b = refl

  pub other_called : (args : List Value) (v : Value) → ((id : Id Functions) → v ≡ V.Func id → ⊥) → ((id : LibId) → v ≡ V.Lib id → ⊥) → call_on p l site v args w k ≡ by_handler p l site (callee_of w.store.heap chain_limit v args) w k
  other_called args V.Nil f b = refl
  other_called args V.False f b = refl
  other_called args V.True f b = refl
  other_called args (V.Int x) f b = refl
  other_called args (V.Str x) f b = refl
  other_called args (V.Table x) f b = refl
  other_called args (V.Func x) f b = absurd (f x refl)
  other_called args (V.Lib x) f b = absurd (b x refl)
  other_called args (V.Linda x) f b = refl
  other_called args (V.Lane x) f b = refl
  other_called args (V.Light x) f b = refl
