-- What follows where a part of the machine fails.
use Rattle.std.proofs.Common.{◌≡◌, ◌⊎◌, inl, inr, ℕ, ◌++◌, List, Result, Ok, Err, Option, Some, sym, ap, ◌∙◌, refl}
use Rattle.object_store.specs.declared.fault.LuaFault.{LuaFault}
use Rattle.object_store.specs.declared.fault.LuaFault.TheVariants as lua
use Rattle.lanes_lib.specs.declared.ask.Ask.{Ask}
use Rattle.lanes_lib.specs.declared.ask.Answer.{Answer}
use Rattle.lua_meaning.specs.declared.fault.Fault.{Fault}
use Rattle.lua_meaning.specs.declared.fault.Fault.TheVariants as F
use Rattle.lua_meaning.specs.Run.{World, Run, Store, Next, Point, reaches, Leads, here, lost, more, wrote}
use Rattle.lua_meaning.specs.Level.{Loaded}
use Rattle.lua_meaning.specs.Faults.{position, raise, fault_at}
use Rattle.lua_machine.specs.declared.machine.Machine.{Machine}
use Rattle.lua_machine.specs.declared.machine.Window.{Window}
use Rattle.lua_machine.specs.declared.machine.Done.TheVariants.{Failed}
use Rattle.lua_machine.specs.declared.machine.Got.TheVariants as G
use Rattle.lua_machine.specs.declared.machine.Test.TheVariants as T
use Rattle.lua_machine.specs.declared.machine.FlowTag.TheVariants as tag
use Rattle.lua_machine.specs.Does.{world, point, UnitOf, OneOf, PushedOf, ManyOf, TestOf, FlowOf}
use Rattle.lua_machine.specs.Failing.{Fails, Lost, Failing, FailingAt, string_of, with_text}

module _ {H : Type 0} {asked : H → Ask → Answer → H → Type 0} {A : Type 0} (m m1 : Machine H) (k : Next A) where
  pub lost_leads : Lost m m1 → (r : Run) → Leads asked (point m) r (point m1) (reaches (Err m1.fault) k (world m1))
  lost_leads x r = rw (x.says, x.holds, x.host) lost

  pub raise_leads : (text : List ℕ) → Failing text m m1 → Leads asked (point m) (raise text (world m) k) (point m1) (reaches (Err m1.fault) k (world m1))
  raise_leads text (inl x) = rw (x.says, x.holds, x.host, x.left) (wrote here)
  raise_leads text (inr x) = lost_leads x (raise text (world m) k)

module _ {H : Type 0} {asked : H → Ask → Answer → H → Type 0} {A : Type 0} (m m1 : Machine H) (k : Next A) where
  -- a fault of this line
  pub fault_leads : (p : Loaded) (line : ℕ) (fault : LuaFault) → FailingAt p line fault m m1 → Leads asked (point m) (fault_at p line fault (world m) k) (point m1) (reaches (Err m1.fault) k (world m1))
  fault_leads p line lua.Memory x = lost_leads m m1 k x (k (Err F.Memory) (world m))
  fault_leads p line lua.Full x = raise_leads m m1 k _ x
  fault_leads p line lua.ZeroDivisor x = raise_leads m m1 k _ x
  fault_leads p line lua.NotInteger x = raise_leads m m1 k _ x
  fault_leads p line lua.ZeroStep x = raise_leads m m1 k _ x
  fault_leads p line lua.NilKey x = raise_leads m m1 k _ x
  fault_leads p line lua.DeadKey x = raise_leads m m1 k _ x
  fault_leads p line lua.LongChain x = raise_leads m m1 k _ x
  fault_leads p line lua.BadItem x = raise_leads m m1 k _ x
  fault_leads p line lua.OpenSet x = raise_leads m m1 k _ x
  fault_leads p line lua.BadCapture x = raise_leads m m1 k _ x
  fault_leads p line lua.EndsWithPercent x = raise_leads m m1 k _ x
  fault_leads p line lua.TooManyItems x = raise_leads m m1 k _ x
  fault_leads p line lua.BadPosition x = raise_leads m m1 k _ x
  fault_leads p line lua.TextTooLong x = raise_leads m m1 k _ x
  fault_leads p line lua.NoModule x = raise_leads m m1 k _ x
  fault_leads p line lua.BadFormat x = raise_leads m m1 k _ x
  fault_leads p line lua.BadKey x = raise_leads m m1 k _ x
  fault_leads p line lua.NoData x = raise_leads m m1 k _ x
  fault_leads p line lua.BadCount x = raise_leads m m1 k _ x
  fault_leads p line lua.BadOption x = raise_leads m m1 k _ x
  fault_leads p line lua.TooManyValues x = raise_leads m m1 k _ x
  fault_leads p line lua.BadToString x = raise_leads m m1 k _ x
  fault_leads p line lua.Protected x = raise_leads m m1 k _ x
  fault_leads p line (lua.NotCallable a) x = raise_leads m m1 k _ x
  fault_leads p line (lua.NotIndexable a) x = raise_leads m m1 k _ x
  fault_leads p line (lua.NotArith a) x = raise_leads m m1 k _ x
  fault_leads p line (lua.NotBits a) x = raise_leads m m1 k _ x
  fault_leads p line (lua.NotConcat a) x = raise_leads m m1 k _ x
  fault_leads p line (lua.NotLength a) x = raise_leads m m1 k _ x
  fault_leads p line (lua.NotOrdered a b) x = raise_leads m m1 k _ x
  fault_leads p line (lua.BadArgument a b) x = raise_leads m m1 k _ x

-- the stack stays
pub failing_stack : {H : Type 0} (m m1 : Machine H) (text : List ℕ) → Failing text m m1 → m1.stack ≡ m.stack
failing_stack m m1 text (inl x) = x.stack
failing_stack m m1 text (inr x) = x.stack
