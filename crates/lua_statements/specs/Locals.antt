-- The stack past a window.
use Rattle.std.specs.Prelude.{◌+◌, List, drop}
use Rattle.object_store.specs.declared.value.Value.{Value}
use Rattle.lua_machine.specs.Piled.{Piled}
use Rattle.lua_machine.specs.declared.machine.Window.{Window}

-- the values past a window
abbrev pub past : Window → Piled → List Value
past f s = drop (f.base + f.size) s.values
