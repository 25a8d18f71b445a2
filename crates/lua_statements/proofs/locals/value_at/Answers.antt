use Rattle.std.proofs.Common.{arith}
use Rattle.lua_statements.proofs.LocalTurns.{first_at}
use Rattle.lua_statements.proofs.locals.value_at.Goals as goal

pub returns-then-i-len : goal.returns-then-i-len
returns-then-i-len g c = first_at c.args.m.now.stack.values c.args.at c.args.i c.at.result (omega arith) c.at.ensures
