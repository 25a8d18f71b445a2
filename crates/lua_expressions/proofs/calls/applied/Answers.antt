use Rattle.lua_meaning.specs.Run.{and_then}
use Rattle.lua_meaning.specs.Levels.{level}
use Rattle.lua_meaning.specs.Expressions.{invoked}
use Rattle.lua_machine.specs.Does.{frame}
use Rattle.lua_machine.proofs.Leads.{leads_on}
use Rattle.lua_expressions.proofs.CallTurns.{got_above}
use Rattle.lua_expressions.proofs.calls.applied.Goals as goal

pub returns-in-Failed : goal.returns-in-Failed
returns-in-Failed g c =
    let p = c.args.p.now in
    let l = level p c.args.b.now.level in
    let f = frame c.args.f.now c.args.m.now.stack in
    record { leads = λ k. c.in-Failed.ensures.leads (and_then k (λ args w. invoked p l f c.args.line c.args.function args w k)); stack = tt }

pub returns : goal.returns
returns g c =
    let p = c.args.p.now in
    let l = level p c.args.b.now.level in
    let f = frame c.args.f.now c.args.m.now.stack in
    record {
      leads = λ k. leads_on (c.in-Well.ensures.leads (and_then k (λ args w. invoked p l f c.args.line c.args.function args w k))) (c.invoked.ensures.leads k);
      stack = got_above c.args.at c.args.m.now.stack c.list.new.m.stack c.invoked.new.m.stack c.in-Well.ensures.stack c.invoked.result c.invoked.ensures.stack;
    }
