-- What the machine's own small parts do.
use Rattle.std.specs.Prelude.{◌≡◌, ◌⊎◌, ◌<◌, ◌≤◌, ◌+◌, ◌++◌, ◌∷◌, [], ℕ, length, drop, slice_set, Option, Some, None, Result, Ok, Err}
use Rattle.lanes_lib.specs.declared.ask.Ask.{Ask}
use Rattle.lanes_lib.specs.declared.ask.Answer.{Answer}
use Rattle.object_store.specs.declared.value.Value.{Value}
use Rattle.lua_meaning.specs.declared.fault.Fault.{Fault}
use Rattle.lua_meaning.specs.declared.fault.Fault.TheVariants as F
use Rattle.lua_meaning.specs.Run.{Run, Next, Follows}
use Rattle.lua_meaning.specs.Level.{Locals, CellId}
use Rattle.lua_meaning.specs.Names.{first}
use Rattle.lua_machine.specs.Piled.{Piled, cut, with_values}
use Rattle.lua_machine.specs.declared.machine.Machine.{Machine}
use Rattle.lua_machine.specs.declared.machine.Window.{Window}
use Rattle.lua_machine.specs.declared.machine.Done.{Done}
use Rattle.lua_machine.specs.declared.machine.Done.TheVariants.{Well, Failed}
use Rattle.lua_machine.specs.Does.{world, point, locals, OnWell, Around}

-- the value came onto the stack, or memory ran out
abbrev pub Pushed : {H : Type 0} → Machine H → Done → Machine H → Type 0
Pushed m Well m1 = m1 ≡ record m { stack = with_values m.stack (m.stack.values ++ m.value ∷ []) }
Pushed m Failed m1 = m1 ≡ record m { fault = F.Memory }

-- the locals after a part
abbrev pub located : {H : Type 0} → Done → Window → Machine H → Result Locals Fault
located Well f m = Ok (locals f m.stack)
located Failed f m = Err m.fault

-- a cell, or none where the part failed
abbrev pub found : {H : Type 0} → Option CellId → Machine H → Result CellId Fault
found (Some c) m = Ok c
found None m = Err m.fault

module _ {H : Type 0} (asked : H → Ask → Answer → H → Type 0) where
  -- a part changed locals, or failed
  pub record LocalsOf (meaning : Next Locals → Run) (m : Machine H) (f : Window) (r : Done)
      (m1 : Machine H) : Type 0 where
    pub leads : Follows asked (point m) meaning (point m1) (located r f m1) (world m1)
    pub stack : OnWell r (Around f m.stack m1.stack)

  -- a part gave a cell, or failed; the stack is as it was
  pub record CellOf (meaning : Next CellId → Run) (m : Machine H) (r : Option CellId)
      (m1 : Machine H) : Type 0 where
    pub leads : Follows asked (point m) meaning (point m1) (found r m1) (world m1)
    pub stack : m1.stack ≡ m.stack
