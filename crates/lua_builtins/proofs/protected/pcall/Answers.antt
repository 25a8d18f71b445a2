use Rattle.std.proofs.Common.{sym, ◌∙◌, drop, codes}
use Rattle.object_store.specs.declared.fault.LuaFault.TheVariants as lua
use Rattle.lua_meaning.specs.Levels.{level}
use Rattle.lua_meaning.specs.Library.{caught}
use Rattle.lua_machine.specs.Does.{world}
use Rattle.lua_machine.proofs.Leads.{from, leads_on}
use Rattle.lua_machine.proofs.Failures.{fault_leads}
use Rattle.lua_builtins.proofs.Stacks.{got_cut}
use Rattle.lua_builtins.proofs.Catching.{pcall_bad, pcall_goes, pcall_handle}
use Rattle.lua_builtins.proofs.protected.pcall.Goals as goal

pub returns-in_default : goal.returns-in_default
returns-in_default g c =
    let m = c.args.m.now in
    let l = level c.args.p.now c.args.b.now.level in
    record {
      leads = λ k. from (pcall_bad c.args.p.now l c.args.site (world m) k (drop c.args.at m.stack.values) (sym c.argument.ensures ∙ c.in_default.is)) (fault_leads m c.bad_argument.new.m k c.args.p.now c.args.site.line (lua.BadArgument 1 (codes "pcall")) c.bad_argument.ensures);
      stack = tt;
    }

pub returns-in-One : goal.returns-in-One
returns-in-One g c =
    let a = c.args in
    let m = a.m.now in
    let p = a.p.now in
    let l = level p a.b.now.level in
    let args = drop a.at m.stack.values in
    let ran = rw (c.inner.ensures, c.in-One.is) at c.apart-got.ensures.leads in
    let rest = c.give_two.ensures in
    let stack = rw c.apart-got.ensures.stack at rest.stack in
    record {
      leads = λ k. from (pcall_goes p l a.site (world m) k args c.in-Some.function (sym c.argument.ensures ∙ c.in-Some.is)) (leads_on (ran (caught p l a.site (pcall_handle p l a.site (world m) k args) k)) (rest.leads k));
      stack = got_cut a.at m.stack c.give_two.new.m.stack c.give_two.result stack;
    }

pub returns-in-Many : goal.returns-in-Many
returns-in-Many g c =
    let a = c.args in
    let m = a.m.now in
    let p = a.p.now in
    let l = level p a.b.now.level in
    let args = drop a.at m.stack.values in
    let ran = rw (c.inner.ensures, c.in-Many.is) at c.apart-got.ensures.leads in
    let rest = c.give_all.ensures l in
    let stack = rw c.apart-got.ensures.stack at rest.stack in
    record {
      leads = λ k. from (pcall_goes p l a.site (world m) k args c.in-Some.function (sym c.argument.ensures ∙ c.in-Some.is)) (leads_on (ran (caught p l a.site (pcall_handle p l a.site (world m) k args) k)) (rest.leads k));
      stack = got_cut a.at m.stack c.give_all.new.m.stack c.give_all.result stack;
    }

pub returns-in-Raised : goal.returns-in-Raised
returns-in-Raised g c =
    let a = c.args in
    let m = a.m.now in
    let p = a.p.now in
    let l = level p a.b.now.level in
    let args = drop a.at m.stack.values in
    let ran = rw (c.inner.ensures, c.in-Failed.is, c.in-Raised.is) at c.apart-got.ensures.leads in
    let rest = c.give_two-in-Raised.ensures in
    let stack = rw c.apart-got.ensures.stack at rest.stack in
    record {
      leads = λ k. from (pcall_goes p l a.site (world m) k args c.in-Some.function (sym c.argument.ensures ∙ c.in-Some.is)) (leads_on (ran (caught p l a.site (pcall_handle p l a.site (world m) k args) k)) (rest.leads k));
      stack = got_cut a.at m.stack c.give_two-in-Raised.new.m.stack c.give_two-in-Raised.result stack;
    }
