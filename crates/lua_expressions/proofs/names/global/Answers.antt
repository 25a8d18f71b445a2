use Rattle.lua_expressions.proofs.FormTurns.{table_is}
use Rattle.lua_expressions.proofs.names.global.Goals as goal

pub returns : goal.returns
returns g c = rw (table_is c.globals.result 0 c.globals.ensures.number) at c.field.ensures
