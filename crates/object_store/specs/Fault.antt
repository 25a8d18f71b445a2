-- The fault of a script for each refusal of a table and of an arena.
use Rattle.object_store.specs.declared.fault.LuaFault.{LuaFault}
use Rattle.object_store.specs.declared.fault.LuaFault.TheVariants as lua
use Rattle.object_store.specs.declared.table.SetFault.{SetFault}
use Rattle.object_store.specs.declared.table.SetFault.TheVariants as set
use Rattle.lanes_arena.specs.declared.arena.ArenaFault.{ArenaFault}
use Rattle.lanes_arena.specs.declared.arena.ArenaFault.TheVariants as arena

abbrev pub fault_of_set : SetFault → LuaFault
fault_of_set set.NilKey = lua.NilKey
fault_of_set set.Memory = lua.Memory

abbrev pub fault_of_arena : ArenaFault → LuaFault
fault_of_arena arena.Full = lua.Full
fault_of_arena arena.Memory = lua.Memory
