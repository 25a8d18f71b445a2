use Rattle.std.proofs.Common.{[]}
use Rattle.std.proofs.Math.Seq.{drop-length}
use Rattle.lua_meaning.specs.Run.{and_then}
use Rattle.lua_meaning.specs.Levels.{level}
use Rattle.lua_meaning.specs.Expressions.{list, invoked}
use Rattle.lua_machine.specs.Does.{frame}
use Rattle.lua_machine.proofs.Leads.{leads_on}
use Rattle.lua_expressions.proofs.calls.called.Goals as goal

pub returns-in-Failed : goal.returns-in-Failed
returns-in-Failed g c =
    let p = c.args.p.now in
    let l = level p c.args.b.now.level in
    let f = frame c.args.f.now c.args.m.now.stack in
    record { leads = λ k. c.in-Failed.ensures.leads (and_then k (λ v w. list l [] c.args.es.now f w (and_then k (λ args w. invoked p l f c.args.line v args w k)))); stack = tt }

pub returns : goal.returns
returns g c =
    let p = c.args.p.now in
    let l = level p c.args.b.now.level in
    let f = frame c.args.f.now c.args.m.now.stack in
    let applied = rw (c.len-at.ensures, c.in-Well.ensures.stack, drop-length c.args.m.now.stack.values) at c.applied.ensures.leads in
    let stack = rw (c.len-at.ensures, c.in-Well.ensures.stack) at c.applied.ensures.stack in
    record {
      leads = λ k. leads_on (c.in-Well.ensures.leads (and_then k (λ v w. list l [] c.args.es.now f w (and_then k (λ args w. invoked p l f c.args.line v args w k))))) (applied k);
      stack = stack;
    }
