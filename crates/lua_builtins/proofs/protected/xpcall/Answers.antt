use Rattle.std.proofs.Common.{sym, ◌∙◌, drop, codes}
use Rattle.object_store.specs.declared.fault.LuaFault.TheVariants as lua
use Rattle.lua_meaning.specs.Levels.{level}
use Rattle.lua_machine.specs.Does.{world}
use Rattle.lua_machine.proofs.Leads.{from}
use Rattle.lua_machine.proofs.Failures.{fault_leads}
use Rattle.lua_builtins.proofs.Catching.{xpcall_bad, xpcall_bad_handler, xpcall_goes}
use Rattle.lua_builtins.proofs.protected.xpcall.Goals as goal

pub returns-in_default : goal.returns-in_default
returns-in_default g c =
    let m = c.args.m.now in
    let l = level c.args.p.now c.args.b.now.level in
    record {
      leads = λ k. from (xpcall_bad c.args.p.now l c.args.site (world m) k (drop c.args.at m.stack.values) (sym c.argument.ensures ∙ c.in_default.is)) (fault_leads m c.bad_argument.new.m k c.args.p.now c.args.site.line (lua.BadArgument 1 (codes "xpcall")) c.bad_argument.ensures);
      stack = tt;
    }

pub returns-in_default-argument : goal.returns-in_default-argument
returns-in_default-argument g c =
    let m = c.args.m.now in
    let l = level c.args.p.now c.args.b.now.level in
    record {
      leads = λ k. from (xpcall_bad_handler c.args.p.now l c.args.site (world m) k (drop c.args.at m.stack.values) c.in-Some.function (sym c.argument.ensures ∙ c.in-Some.is) (sym c.argument-2.ensures ∙ c.in_default-argument.is)) (fault_leads m c.bad_argument-in_default-argument.new.m k c.args.p.now c.args.site.line (lua.BadArgument 2 (codes "xpcall")) c.bad_argument-in_default-argument.ensures);
      stack = tt;
    }

pub returns : goal.returns
returns g c =
    let m = c.args.m.now in
    let l = level c.args.p.now c.args.b.now.level in
    record {
      leads = λ k. from (xpcall_goes c.args.p.now l c.args.site (world m) k (drop c.args.at m.stack.values) c.in-Some.function c.in-Some-argument.handler (sym c.argument.ensures ∙ c.in-Some.is) (sym c.argument-2.ensures ∙ c.in-Some-argument.is)) (c.protect.ensures.leads k);
      stack = c.protect.ensures.stack;
    }
