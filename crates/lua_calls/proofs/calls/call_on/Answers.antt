use Rattle.std.proofs.Common.{drop}
use Rattle.lua_meaning.specs.Levels.{level}
use Rattle.lua_machine.specs.Does.{world}
use Rattle.lua_machine.proofs.Leads.{from}
use Rattle.lua_calls.proofs.CallTurns.{other_called}
use Rattle.lua_calls.proofs.calls.call_on.Goals as goal

pub returns-in_default : goal.returns-in_default
returns-in_default g c =
    let a = c.args in
    let m = a.m.now in
    record {
      leads = λ k. from (other_called a.p.now (level a.p.now a.b.now.level) a.site (world m) k (drop a.at m.stack.values) m.value c.in_default.not-Func c.in_default.not-Lib) (c.call_handler.ensures.leads k);
      stack = c.call_handler.ensures.stack;
    }
