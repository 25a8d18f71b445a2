use Rattle.std.proofs.Common.{◌≡◌, sym, ap, ◌∙◌, Some, None, drop}
use Rattle.object_store.specs.declared.fault.LuaFault.TheVariants as lua
use Rattle.object_store.specs.declared.kind.Kind.TheVariants as kind
use Rattle.lua_meaning.specs.declared.library.Library.TheVariants as library
use Rattle.lua_meaning.specs.Levels.{level}
use Rattle.lua_meaning.specs.Library.{function_of, library_call}
use Rattle.lua_machine.specs.Does.{world}
use Rattle.lua_machine.proofs.Leads.{from}
use Rattle.lua_machine.proofs.Failures.{fault_leads}
use Rattle.lua_builtins.proofs.dispatch.library_call.Goals as goal

pub returns-in-Some-Plain : goal.returns-in-Some-Plain
returns-in-Some-Plain g c =
    let a = c.args in
    let m = a.m.now in
    let l = level a.p.now a.b.now.level in
    let known : function_of a.id.number ≡ Some (library.Plain c.in-Some-Plain.function) = sym c.function_of.ensures ∙ c.in-Some-Plain.is ∙ ap Some c.in-Some-Plain.field-0-is in
    let rest = c.plain.ensures l in
    record {
      leads = λ k. from (ap (λ o. library_call a.p.now l a.site o (drop a.at m.stack.values) (world m) k) known) (rest.leads k);
      stack = rest.stack;
    }

pub returns-in-Some-Lanes : goal.returns-in-Some-Lanes
returns-in-Some-Lanes g c =
    let a = c.args in
    let m = a.m.now in
    let l = level a.p.now a.b.now.level in
    let known : function_of a.id.number ≡ Some (library.Lanes c.in-Some-Lanes.function) = sym c.function_of.ensures ∙ c.in-Some-Lanes.is ∙ ap Some c.in-Some-Lanes.field-0-is in
    let rest = c.lanes_call.ensures l in
    record {
      leads = λ k. from (ap (λ o. library_call a.p.now l a.site o (drop a.at m.stack.values) (world m) k) known) (rest.leads k);
      stack = rest.stack;
    }

pub returns-in-None : goal.returns-in-None
returns-in-None g c =
    let a = c.args in
    let m = a.m.now in
    let l = level a.p.now a.b.now.level in
    let none : function_of a.id.number ≡ None = sym c.function_of.ensures ∙ c.in-None.is in
    record {
      leads = λ k. from (ap (λ o. library_call a.p.now l a.site o (drop a.at m.stack.values) (world m) k) none) (fault_leads m c.fault_at.new.self k a.p.now a.site.line (lua.NotCallable kind.Function) c.fault_at.ensures);
      stack = tt;
    }
