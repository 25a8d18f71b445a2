use Rattle.lua_meaning.specs.Run.{and_then}
use Rattle.lua_meaning.specs.Level.{site_at}
use Rattle.lua_meaning.specs.Levels.{level}
use Rattle.lua_machine.specs.Does.{frame}
use Rattle.lua_machine.proofs.Leads.{leads_on}
use Rattle.lua_expressions.proofs.CallTurns.{got_above}
use Rattle.lua_expressions.proofs.calls.invoked.Goals as goal

pub returns-in-Failed : goal.returns-in-Failed
returns-in-Failed g c =
    let l = level c.args.p.now c.args.b.now.level in
    let f = frame c.args.f.now c.args.m.now.stack in
    record { leads = λ k. c.in-Failed.ensures.leads (and_then k (λ args w. l.call c.args.function args (site_at c.args.line f) w k)); stack = tt }

pub returns : goal.returns
returns g c =
    let l = level c.args.p.now c.args.b.now.level in
    let f = frame c.args.f.now c.args.m.now.stack in
    record {
      leads = λ k. leads_on (c.in-Well.ensures.leads (and_then k (λ args w. l.call c.args.function args (site_at c.args.line f) w k))) (c.invoke.ensures.leads k);
      stack = got_above c.args.at c.args.m.now.stack c.limited.new.m.stack c.invoke.new.m.stack c.in-Well.ensures.stack c.invoke.result c.invoke.ensures.stack;
    }
