-- What a name of a program refers to.
use Rattle.std.specs.Prelude.{Bool, true, false}
use Rattle.lua_program.specs.declared.expr.Ref.{Ref}
use Rattle.lua_program.specs.declared.expr.Ref.TheVariants as r

-- a local of the function around that an inner function names
abbrev pub is_cell : Ref → Bool
is_cell (r.CellSlot slot) = true
is_cell _ = false
