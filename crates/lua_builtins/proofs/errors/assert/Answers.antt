use Rattle.std.proofs.Common.{sym, ◌∙◌, drop, codes}
use Rattle.object_store.specs.declared.fault.LuaFault.TheVariants as lua
use Rattle.lua_machine.specs.Does.{world}
use Rattle.lua_machine.proofs.Leads.{from}
use Rattle.lua_machine.proofs.Failures.{fault_leads}
use Rattle.lua_operands.proofs.Comparisons.{truthy_is}
use Rattle.lua_builtins.proofs.Stacks.{all_given}
use Rattle.lua_builtins.proofs.ErrorTurns.{assert_bad, assert_true, assert_false}
use Rattle.lua_builtins.proofs.errors.assert.Goals as goal

pub returns-in_default : goal.returns-in_default
returns-in_default g c = λ l.
    let m = c.args.m.now in
    let args = drop c.args.at m.stack.values in
    record {
      leads = λ k. from (assert_bad c.args.p.now l c.args.site (world m) k args (sym c.argument.ensures ∙ c.in_default.is)) (fault_leads m c.bad_argument.new.m k c.args.p.now c.args.site.line (lua.BadArgument 1 (codes "assert")) c.bad_argument.ensures);
      stack = tt;
    }

pub returns-then-is_truthy : goal.returns-then-is_truthy
returns-then-is_truthy g c = λ l.
    let m = c.args.m.now in
    let args = drop c.args.at m.stack.values in
    let v = c.in-Some.value in
    let given = all_given g.H.Host.asked m c.args.at c.requires in
    record {
      leads = λ k. from (assert_true c.args.p.now l c.args.site (world m) k args v (sym c.argument.ensures ∙ c.in-Some.is) (sym (truthy_is v) ∙ sym c.is_truthy.ensures ∙ c.if-is_truthy.true)) (given.leads k);
      stack = given.stack;
    }

pub returns : goal.returns
returns g c = λ l.
    let m = c.args.m.now in
    let args = drop c.args.at m.stack.values in
    let v = c.in-Some.value in
    let failed = rw c.argument_or_nil-message.ensures at c.raise_failed.ensures in
    record {
      leads = λ k. from (assert_false c.args.p.now l c.args.site (world m) k args v (sym c.argument.ensures ∙ c.in-Some.is) (sym (truthy_is v) ∙ sym c.is_truthy.ensures ∙ c.if-is_truthy.false)) (failed l c.args.site k);
      stack = tt;
    }
