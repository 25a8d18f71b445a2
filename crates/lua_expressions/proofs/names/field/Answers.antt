use Rattle.lua_meaning.specs.Levels.{level}
use Rattle.lua_meaning.specs.Expressions.{field}
use Rattle.lua_machine.specs.Does.{frame}
use Rattle.lua_machine.proofs.Leads.{leads_on}
use Rattle.lua_expressions.proofs.names.field.Goals as goal

pub returns-in-Failed : goal.returns-in-Failed
returns-in-Failed g c =
    let p = c.args.p.now in
    let f = frame c.args.f.now c.args.m.now.stack in
    record { leads = λ k. c.in-Failed.ensures.leads (λ key w. field p (level p c.args.b.now.level) f c.args.line c.args.object key w k); stack = tt }

pub returns : goal.returns
returns g c =
    let p = c.args.p.now in
    let f = frame c.args.f.now c.args.m.now.stack in
    record {
      leads = λ k. leads_on (c.in-Well.ensures.leads (λ key w. field p (level p c.args.b.now.level) f c.args.line c.args.object key w k)) (c.index.ensures.leads k);
      stack = rw c.in-Well.ensures.stack at c.index.ensures.stack;
    }
