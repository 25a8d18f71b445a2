use Rattle.lua_meaning.specs.Run.{and_then}
use Rattle.lua_meaning.specs.Level.{no_site}
use Rattle.lua_meaning.specs.Levels.{level}
use Rattle.lua_meaning.specs.Operate.{unary}
use Rattle.lua_machine.specs.Does.{frame}
use Rattle.lua_machine.proofs.Leads.{leads_on}
use Rattle.lua_expressions.proofs.operations.unary_of.Goals as goal

pub returns-in-Failed : goal.returns-in-Failed
returns-in-Failed g c =
    let p = c.args.p.now in
    let l = level p c.args.b.now.level in
    let f = frame c.args.f.now c.args.m.now.stack in
    record { leads = λ k. c.in-Failed.ensures.leads (and_then k (λ v w. unary p l c.args.line (no_site f) c.args.op v w k)); stack = tt }

pub returns : goal.returns
returns g c =
    let p = c.args.p.now in
    let l = level p c.args.b.now.level in
    let f = frame c.args.f.now c.args.m.now.stack in
    record {
      leads = λ k. leads_on (c.in-Well.ensures.leads (and_then k (λ v w. unary p l c.args.line (no_site f) c.args.op v w k))) (c.unary.ensures.leads k);
      stack = rw c.in-Well.ensures.stack at c.unary.ensures.stack;
    }
