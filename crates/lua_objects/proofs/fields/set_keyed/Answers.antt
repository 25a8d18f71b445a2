use Rattle.lua_meaning.specs.Run.{and_then}
use Rattle.lua_meaning.specs.Levels.{level}
use Rattle.lua_meaning.specs.Expressions.{set_value}
use Rattle.lua_machine.specs.Does.{frame}
use Rattle.lua_machine.proofs.Leads.{leads_on}
use Rattle.lua_objects.proofs.fields.set_keyed.Goals as goal

pub returns-in-Well : goal.returns-in-Well
returns-in-Well g c =
    let a = c.args in
    let l = level a.p.now a.b.now.level in
    let f = frame a.f.now a.m.now.stack in
    let set = rw c.in-Well.ensures.stack at c.set_value.ensures.leads in
    record {
      leads = λ k. leads_on (c.in-Well.ensures.leads (and_then k (λ key w. set_value a.p.now l f a.line a.id key a.e.now w k))) (set k);
      stack = rw c.in-Well.ensures.stack at c.set_value.ensures.stack;
    }

pub returns-in-Failed : goal.returns-in-Failed
returns-in-Failed g c =
    let a = c.args in
    let l = level a.p.now a.b.now.level in
    let f = frame a.f.now a.m.now.stack in
    record { leads = λ k. c.in-Failed.ensures.leads (and_then k (λ key w. set_value a.p.now l f a.line a.id key a.e.now w k)); stack = tt }
