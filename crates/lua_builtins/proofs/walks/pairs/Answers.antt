use Rattle.std.proofs.Common.{sym, ◌∙◌, drop, codes}
use Rattle.object_store.specs.declared.fault.LuaFault.TheVariants as lua
use Rattle.lua_meaning.specs.Levels.{level}
use Rattle.lua_machine.specs.Does.{world}
use Rattle.lua_machine.proofs.Leads.{from}
use Rattle.lua_machine.proofs.Failures.{fault_leads}
use Rattle.lua_builtins.proofs.WalkTurns.{pairs_bad, pairs_plain, pairs_called}
use Rattle.lua_builtins.proofs.walks.pairs.Goals as goal

pub returns-in_default : goal.returns-in_default
returns-in_default g c =
    let m = c.args.m.now in
    let l = level c.args.p.now c.args.b.now.level in
    record {
      leads = λ k. from (pairs_bad c.args.p.now l c.args.site (world m) k (drop c.args.at m.stack.values) (sym c.argument.ensures ∙ c.in_default.is)) (fault_leads m c.bad_argument.new.m k c.args.p.now c.args.site.line (lua.BadArgument 1 (codes "pairs")) c.bad_argument.ensures);
      stack = tt;
    }

pub returns-then-is_nil : goal.returns-then-is_nil
returns-then-is_nil g c =
    let m = c.args.m.now in
    let l = level c.args.p.now c.args.b.now.level in
    let rest = c.pairs_of.ensures l in
    record {
      leads = λ k. from (pairs_plain c.args.p.now l c.args.site (world m) k (drop c.args.at m.stack.values) c.in-Some.value c.handler-function.result (sym c.argument.ensures ∙ c.in-Some.is) c.handler-function.ensures (sym c.is_nil.ensures ∙ c.if-is_nil.true)) (rest.leads k);
      stack = rest.stack;
    }

pub returns : goal.returns
returns g c =
    let m = c.args.m.now in
    let l = level c.args.p.now c.args.b.now.level in
    let rest = c.pairs_handled.ensures in
    record {
      leads = λ k. from (pairs_called c.args.p.now l c.args.site (world m) k (drop c.args.at m.stack.values) c.in-Some.value c.handler-function.result (sym c.argument.ensures ∙ c.in-Some.is) c.handler-function.ensures (sym c.is_nil.ensures ∙ c.if-is_nil.false)) (rest.leads k);
      stack = rest.stack;
    }
