use Rattle.std.proofs.Common.{sym, ap}
use Rattle.lua_meaning.specs.Run.{here}
use Rattle.lua_meaning.specs.Level.{or_broken}
use Rattle.lua_meaning.specs.Levels.{level}
use Rattle.lua_meaning.specs.Expressions.{set_named}
use Rattle.lua_machine.specs.Does.{frame, world}
use Rattle.lua_machine.proofs.Leads.{from}
use Rattle.lua_objects.proofs.fields.set_named.Goals as goal

pub returns-in-Some : goal.returns-in-Some
returns-in-Some g c =
    let a = c.args in
    let m = a.m.now in
    let l = level a.p.now a.b.now.level in
    let f = frame a.f.now m.stack in
    record {
      leads = λ k. from (ap (λ o. set_named a.p.now l f a.line a.id (or_broken o) a.e.now (world m) k) (sym c.in-Some.ensures)) (c.set_value.ensures.leads k);
      stack = c.set_value.ensures.stack;
    }

pub returns-in-None : goal.returns-in-None
returns-in-None g c =
    let a = c.args in
    let m = a.m.now in
    let l = level a.p.now a.b.now.level in
    let f = frame a.f.now m.stack in
    record {
      leads = λ k. from (ap (λ o. set_named a.p.now l f a.line a.id (or_broken o) a.e.now (world m) k) (sym c.in-None.ensures)) (rw c.broken.ensures here);
      stack = tt;
    }
