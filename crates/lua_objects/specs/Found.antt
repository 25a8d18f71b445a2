-- Parts of the machine that give something, or fail.
use Rattle.std.specs.Prelude.{◌≡◌, Option, Some, None, Result, Ok, Err}
use Rattle.lanes_lib.specs.declared.ask.Ask.{Ask}
use Rattle.lanes_lib.specs.declared.ask.Answer.{Answer}
use Rattle.lua_meaning.specs.declared.fault.Fault.{Fault}
use Rattle.lua_meaning.specs.Run.{Run, Next}
use Rattle.lua_machine.specs.declared.machine.Machine.{Machine}
use Rattle.lua_machine.specs.Does.{LeadsTo}

-- what was found, or the fault
abbrev pub found : {H A : Type 0} → Option A → Machine H → Result A Fault
found (Some a) m = Ok a
found None m = Err m.fault

abbrev pub OnFound : {A : Type 0} → Option A → Type 0 → Type 0
OnFound (Some a) P = P
OnFound None P = Unit {0}

-- a part gave something, or none where it failed; the stack is as it was
pub record FoundOf {H A : Type 0} (asked : H → Ask → Answer → H → Type 0) (meaning : Next A → Run)
    (m : Machine H) (r : Option A) (m1 : Machine H) : Type 0 where
  pub leads : LeadsTo asked m meaning m1 (found r m1)
  pub stack : OnFound r (m1.stack ≡ m.stack)
