use Rattle.std.proofs.Common.{drop}
use Rattle.lua_meaning.specs.Run.{here}
use Rattle.lua_meaning.specs.Levels.{level}
use Rattle.lua_machine.specs.Does.{world}
use Rattle.lua_machine.proofs.Leads.{from}
use Rattle.lua_calls.proofs.CallTurns.{no_function}
use Rattle.lua_calls.proofs.calls.call_function.Goals as goal

pub returns-in_default : goal.returns-in_default
returns-in_default g c =
    let a = c.args in
    let m = a.m.now in
    record {
      leads = λ k. from (no_function a.p.now (level a.p.now a.b.now.level) a.site (world m) k (drop a.at m.stack.values) a.function c.in_default.not-Func c.in_default.not-Lib) (rw c.broken.ensures here);
      stack = tt;
    }
