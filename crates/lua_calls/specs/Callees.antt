-- The function that is called in a value's place.
use Rattle.std.specs.Prelude.{◌≡◌, ℕ, List, ◌∷◌, ◌++◌, take, drop, Result, Ok, Err}
use Rattle.object_store.specs.declared.value.Value.{Value}
use Rattle.object_store.specs.declared.fault.LuaFault.{LuaFault}
use Rattle.lanes_lib.specs.declared.ask.Ask.{Ask}
use Rattle.lanes_lib.specs.declared.ask.Answer.{Answer}
use Rattle.lua_meaning.specs.declared.fault.Fault.{Fault}
use Rattle.lua_meaning.specs.declared.fault.Fault.TheVariants as F
use Rattle.lua_meaning.specs.Run.{Run, World, Next}
use Rattle.lua_meaning.specs.Level.{Loaded}
use Rattle.lua_meaning.specs.Faults.{fault_at}
use Rattle.lua_machine.specs.Piled.{with_values}
use Rattle.lua_machine.specs.declared.machine.Machine.{Machine}
use Rattle.lua_machine.specs.declared.machine.Done.{Done}
use Rattle.lua_machine.specs.declared.machine.Done.TheVariants.{Well, Failed}
use Rattle.lua_machine.specs.Does.{LeadsTo, OnWell, Above}

-- a function and its arguments, or the fault on this line
abbrev pub callee_or_fault : Loaded → ℕ → Result (Value × List Value) LuaFault → World →
    Next (Value × List Value) → Run
callee_or_fault p line (Ok callee) w k = k (Ok callee) w
callee_or_fault p line (Err fault) w k = fault_at p line fault w k

-- the function is in `value`, its arguments are on the stack from a place on
abbrev pub callee_at : {H : Type 0} → Done → ℕ → Machine H → Result (Value × List Value) Fault
callee_at Well at m = Ok (m.value, drop at m.stack.values)
callee_at Failed at m = Err m.fault

-- a part found a function and its arguments, or failed
pub record CalleeOf {H : Type 0} (asked : H → Ask → Answer → H → Type 0)
    (meaning : Next (Value × List Value) → Run) (m : Machine H) (at : ℕ) (r : Done)
    (m1 : Machine H) : Type 0 where
  pub leads : LeadsTo asked m meaning m1 (callee_at r at m1)
  pub stack : OnWell r (Above at m.stack m1.stack)

-- the value came onto the stack at a place, before those that stand from there on, or memory ran
-- out
abbrev pub Inserted : {H : Type 0} → Machine H → ℕ → Done → Machine H → Type 0
Inserted m at Well m1 =
    m1 ≡ record m {
      stack = with_values m.stack (take at m.stack.values ++ m.value ∷ drop at m.stack.values);
    }
Inserted m at Failed m1 = m1 ≡ record m { fault = F.Memory }
