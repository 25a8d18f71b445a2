use Rattle.lua_meaning.specs.Levels.{level}
use Rattle.lua_builtins.proofs.dispatch.builtin_call.Goals as goal

pub returns-in-Assert : goal.returns-in-Assert
returns-in-Assert g c = rw c.in-Assert.is (c.assert.ensures (level c.args.p.now c.args.b.now.level))

pub returns-in-Error : goal.returns-in-Error
returns-in-Error g c = rw c.in-Error.is (c.error.ensures (level c.args.p.now c.args.b.now.level))

pub returns-in-Require : goal.returns-in-Require
returns-in-Require g c = rw c.in-Require.is (c.require.ensures (level c.args.p.now c.args.b.now.level))
