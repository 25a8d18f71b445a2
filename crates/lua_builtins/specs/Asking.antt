-- Which answers an ask may have, and why one is refused.
use Rattle.std.specs.Prelude.{ℕ, ◌++◌}
use Rattle.lanes_lib.specs.declared.ask.Ask.{Ask}
use Rattle.lanes_lib.specs.declared.ask.Ask.TheVariants as ask
use Rattle.lanes_lib.specs.declared.ask.AskFault.{AskFault}
use Rattle.lanes_lib.specs.declared.ask.AskFault.TheVariants as refused
use Rattle.lanes_lib.specs.Face.{ask_fault_text}
use Rattle.lua_meaning.specs.Level.{Loaded}
use Rattle.lua_meaning.specs.Faults.{position}
use Rattle.lua_machine.specs.declared.machine.Machine.{Machine}
use Rattle.lua_machine.specs.Failing.{Failing, FailingAt}
use Rattle.lua_builtins.specs.declared.asking.AskKind.{AskKind}
use Rattle.lua_builtins.specs.declared.asking.AskKind.TheVariants as of

abbrev pub kind_is : Ask → AskKind
kind_is (ask.Print text) = of.Print
kind_is ask.NewLinda = of.NewLinda
kind_is (ask.Linda call seconds) = of.Linda

-- a refusal was raised at this line
abbrev pub Refusing : {H : Type 0} → Loaded → ℕ → AskFault → Machine H → Machine H → Type 0
Refusing p line (refused.Lua f) m m1 = FailingAt p line f m m1
Refusing p line f m m1 = Failing (position p line ++ ask_fault_text f) m m1
