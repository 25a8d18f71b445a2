-- What the turns of the code say of a chain.
use Rattle.std.specs.Prelude.{Option, Some, None, Result, Ok, Err}
use Rattle.object_store.specs.declared.fault.LuaFault.{LuaFault}
use Rattle.lua_ops.specs.Metamethods.{Link, Ends, Goes}
use Rattle.lua_ops.specs.declared.chains.Turn.{Turn}
use Rattle.lua_ops.specs.declared.chains.Turn.TheVariants as turn

abbrev pub link_of : {A : Type 0} → Result (Turn A) LuaFault → Link A
link_of (Ok (turn.Ends answer)) = Ends (Ok answer)
link_of (Ok (turn.Goes next)) = Goes next
link_of (Err fault) = Ends (Err fault)

-- a turn, or this answer where there is none
abbrev pub turn_or : {A : Type 0} → Option (Turn A) → Result A LuaFault → Link A
turn_or None absent = Ends absent
turn_or (Some turn) absent = link_of (Ok turn)
