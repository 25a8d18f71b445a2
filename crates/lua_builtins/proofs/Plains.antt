-- What a function that calls nothing back gives, by what the base library answers.
use Rattle.std.proofs.Common.{◌≡◌, ◌⊎◌, inl, inr, List, Ok, Err, Some}
use Rattle.object_store.specs.declared.value.Value.{Value}
use Rattle.object_store.specs.declared.fault.LuaFault.{LuaFault}
use Rattle.object_store.specs.declared.fault.LuaFault.TheVariants as lua
use Rattle.object_store.specs.Heap.{Shown}
use Rattle.base_lib.specs.declared.given.Given.{Given}
use Rattle.base_lib.specs.Base as base
use Rattle.base_lib.specs.Base.{Values, Text, Changed}
use Rattle.base_lib.specs.Given.{IsDone, IsFault, given_values}
use Rattle.lanes_lib.specs.declared.ask.Ask.{Ask}
use Rattle.lanes_lib.specs.declared.ask.Answer.{Answer}
use Rattle.lua_meaning.specs.declared.fault.Site.{Site}
use Rattle.lua_meaning.specs.Run.{Run, Next, Leads, here, wrote, reaches}
use Rattle.lua_meaning.specs.Level.{Loaded, Level}
use Rattle.lua_meaning.specs.Library.{plain}
use Rattle.lua_machine.specs.declared.machine.Machine.{Machine}
use Rattle.lua_machine.specs.Does.{world, point}
use Rattle.lua_machine.specs.Failing.{FailingAt}
use Rattle.lua_machine.proofs.Failures.{fault_leads, lost_leads}

module _ {H : Type 0} {asked : H → Ask → Answer → H → Type 0} (p : Loaded) (l : Level) (site : Site) (m : Machine H) (new : Shown) (args : List Value) (k : Next (List Value)) where
  -- the values
  pub plain_done : (answer : base.Answer) (given : Given) → IsDone m.state args answer (Ok given) new →
      Leads asked (point m) (plain p l site answer (world m) k) (point (record m { state = new })) (Some (k (Ok (given_values given args)) (world (record m { state = new }))))
  plain_done (Ok (Values vs)) given e = rw (e.0, e.1) here
  plain_done (Ok (Text t)) given e = rw (e.0, e.1) (wrote here)
  plain_done (Ok (Changed heap vs)) given e = rw (e.0, e.1) (wrote here)
  plain_done (Err f) given e = absurd e

-- the fault that is wanted, or want of memory
pub is_fault : (wanted fault : LuaFault) → IsFault wanted fault → (fault ≡ wanted) ⊎ (fault ≡ lua.Memory)
is_fault lua.Full fault e = inl e
is_fault lua.ZeroDivisor fault e = inl e
is_fault lua.NotInteger fault e = inl e
is_fault lua.ZeroStep fault e = inl e
is_fault lua.NilKey fault e = inl e
is_fault lua.DeadKey fault e = inl e
is_fault (lua.NotCallable a) fault e = inl e
is_fault (lua.NotIndexable a) fault e = inl e
is_fault (lua.NotArith a) fault e = inl e
is_fault (lua.NotBits a) fault e = inl e
is_fault (lua.NotConcat a) fault e = inl e
is_fault (lua.NotLength a) fault e = inl e
is_fault (lua.NotOrdered a b) fault e = inl e
is_fault lua.LongChain fault e = inl e
is_fault lua.BadItem fault e = inl e
is_fault lua.OpenSet fault e = inl e
is_fault lua.BadCapture fault e = inl e
is_fault lua.EndsWithPercent fault e = inl e
is_fault lua.TooManyItems fault e = inl e
is_fault lua.BadPosition fault e = inl e
is_fault lua.TextTooLong fault e = inl e
is_fault lua.NoModule fault e = inl e
is_fault lua.BadFormat fault e = inl e
is_fault lua.BadKey fault e = inl e
is_fault lua.NoData fault e = inl e
is_fault lua.BadCount fault e = inl e
is_fault lua.BadOption fault e = inl e
is_fault lua.TooManyValues fault e = inl e
is_fault lua.BadToString fault e = inl e
is_fault lua.Protected fault e = inl e
is_fault lua.Memory fault e = inl e
is_fault (lua.BadArgument a b) fault e = e

module _ {H : Type 0} {asked : H → Ask → Answer → H → Type 0} (p : Loaded) (l : Level) (site : Site) (m m1 : Machine H) (new : Shown) (args : List Value) (k : Next (List Value)) (fault : LuaFault) (failing : FailingAt p site.line fault (record m { state = new }) m1) where
  memory_leads : fault ≡ lua.Memory → new ≡ m.state → (r : Run) → Leads asked (point m) r (point m1) (reaches (Err m1.fault) k (world m1))
  memory_leads e s r = let x = rw (e, s) at failing in lost_leads m m1 k x r

  wanted_leads : (wanted : LuaFault) → (fault ≡ wanted) ⊎ (fault ≡ lua.Memory) → new ≡ m.state → Leads asked (point m) (plain p l site (Err wanted) (world m) k) (point m1) (reaches (Err m1.fault) k (world m1))
  wanted_leads wanted (inl e) s = let x = rw (e, s) at failing in fault_leads m m1 k p site.line wanted x
  wanted_leads wanted (inr e) s = memory_leads e s (plain p l site (Err wanted) (world m) k)

  -- a fault
  pub plain_failed : (answer : base.Answer) → IsDone m.state args answer (Err fault) new →
      Leads asked (point m) (plain p l site answer (world m) k) (point m1) (reaches (Err m1.fault) k (world m1))
  plain_failed (Ok (Values vs)) e = absurd e
  plain_failed (Ok (Text t)) e = memory_leads e.0 e.1 (plain p l site (Ok (Text t)) (world m) k)
  plain_failed (Ok (Changed heap vs)) e = memory_leads e.0 e.1 (plain p l site (Ok (Changed heap vs)) (world m) k)
  plain_failed (Err wanted) e = wanted_leads wanted (is_fault wanted fault e.0) e.1
