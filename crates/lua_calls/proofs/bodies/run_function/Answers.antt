use Rattle.std.proofs.Common.{sym, ap, drop}
use Rattle.object_store.specs.declared.fault.LuaFault.TheVariants as lua
use Rattle.object_store.specs.declared.kind.Kind.TheVariants as kind
use Rattle.lua_meaning.specs.Levels.{level}
use Rattle.lua_meaning.specs.Calls.{run_proto}
use Rattle.lua_machine.specs.Does.{world}
use Rattle.lua_machine.proofs.Leads.{from}
use Rattle.lua_machine.proofs.Failures.{fault_leads}
use Rattle.lua_calls.proofs.bodies.run_function.Goals as goal

pub returns-in-Some : goal.returns-in-Some
returns-in-Some g c =
    let a = c.args in
    let m = a.m.now in
    record {
      leads = λ k. from (ap (λ o. run_proto a.p.now (level a.p.now a.b.now.level) a.site a.id.number o (drop a.at m.stack.values) (world m) k) (sym c.in-Some.ensures.body)) (c.run_body.ensures.leads k);
      stack = c.run_body.ensures.stack;
    }

pub returns-in-None : goal.returns-in-None
returns-in-None g c =
    let a = c.args in
    let m = a.m.now in
    record {
      leads = λ k. from (ap (λ o. run_proto a.p.now (level a.p.now a.b.now.level) a.site a.id.number o (drop a.at m.stack.values) (world m) k) (sym c.in-None.ensures.body))
          (fault_leads m c.fault_at.new.self k a.p.now a.site.line (lua.NotCallable kind.Function) c.fault_at.ensures);
      stack = tt;
    }
