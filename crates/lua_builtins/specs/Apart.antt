-- Calls on a stack of their own.
use Rattle.std.specs.Prelude.{◌≡◌, ℕ, List, [], ◌∷◌, Result, Ok, Err}
use Rattle.object_store.specs.declared.value.Value.{Value}
use Rattle.lanes_lib.specs.declared.ask.Ask.{Ask}
use Rattle.lanes_lib.specs.declared.ask.Answer.{Answer}
use Rattle.lua_meaning.specs.declared.fault.Fault.{Fault}
use Rattle.lua_meaning.specs.Run.{Run, Next}
use Rattle.lua_machine.specs.Piled.{Piled, cut}
use Rattle.lua_machine.specs.declared.machine.Machine.{Machine}
use Rattle.lua_machine.specs.declared.machine.Got.{Got}
use Rattle.lua_machine.specs.declared.machine.Got.TheVariants as G
use Rattle.lua_machine.specs.Does.{LeadsTo}

-- one value, or those of the other stack
abbrev pub got_apart : {H : Type 0} → Got → Piled → Machine H → Result (List Value) Fault
got_apart G.One s m = Ok (m.value ∷ [])
got_apart G.Many s m = Ok s.values
got_apart G.Failed s m = Err m.fault

module _ {H : Type 0} (asked : H → Ask → Answer → H → Type 0) where
  -- a call gave values apart from the stack, or failed; the stack is cut to a place
  pub record ApartOf (meaning : Next (List Value) → Run) (m : Machine H) (at : ℕ) (r : Got)
      (s : Piled) (m1 : Machine H) : Type 0 where
    pub leads : LeadsTo asked m meaning m1 (got_apart r s m1)
    pub stack : m1.stack ≡ cut at m.stack
