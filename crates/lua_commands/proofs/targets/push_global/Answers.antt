use Rattle.std.proofs.Common.{ap, sym, ◌∙◌}
use Rattle.lua_meaning.specs.Run.{here}
use Rattle.lua_meaning.specs.Level.{or_broken}
use Rattle.lua_meaning.specs.Statements.{Field, global_target}
use Rattle.lua_machine.specs.Does.{world}
use Rattle.lua_machine.proofs.Leads.{from}
use Rattle.lua_commands.proofs.Singles.{globals_is}
use Rattle.lua_commands.proofs.targets.push_global.Goals as goal

pub returns-in_default : goal.returns-in_default
returns-in_default g c =
    let m = c.args.m.now in
    λ line. record {
      leads = λ k. from (ap (λ o. k (global_target line (or_broken o)) (world m)) (sym c.key.ensures ∙ c.in_default.is)) (rw c.broken.ensures here);
      stack = tt;
      count = tt;
    }

pub returns : goal.returns
returns g c =
    let two = rw (globals_is c.globals.result c.globals.ensures.number) at c.push_two.ensures in
    λ line. rw (sym c.key.ensures ∙ c.in-Some.is) (two (λ object key. Field object key line))
