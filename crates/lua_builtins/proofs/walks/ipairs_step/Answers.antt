use Rattle.std.proofs.Common.{ap, sym, ◌∙◌, drop, codes, rules, false}
use Rattle.std.specs.Prelude.{FitsSigned, ◌+ℤ◌, pos}
use Rattle.std.proofs.lemmas.Int.{to_z-of_z}
use mir.Syntax.{w64}
use Rattle.int_ops.specs.Wrapping.{wrapped}
use Rattle.object_store.specs.declared.fault.LuaFault.TheVariants as lua
use Rattle.lua_ops.specs.Metamethods.{operand}
use Rattle.lua_meaning.specs.Run.{and_then}
use Rattle.lua_meaning.specs.Levels.{level}
use Rattle.lua_machine.specs.Does.{world}
use Rattle.lua_machine.proofs.Leads.{from, leads_on}
use Rattle.lua_machine.proofs.Failures.{fault_leads}
use Rattle.lua_builtins.proofs.WalkTurns.{step_bad, step_bad_number, step_goes, item_next}
use Rattle.lua_builtins.proofs.walks.ipairs_step.Goals as goal

pub returns-in_default : goal.returns-in_default
returns-in_default g c =
    let m = c.args.m.now in
    let l = level c.args.p.now c.args.b.now.level in
    record {
      leads = λ k. from (step_bad c.args.p.now l c.args.site (world m) k (drop c.args.at m.stack.values) (sym c.argument.ensures ∙ c.in_default.is)) (fault_leads m c.bad_argument.new.m k c.args.p.now c.args.site.line (lua.BadArgument 1 (codes "ipairs_step")) c.bad_argument.ensures);
      stack = tt;
    }

pub returns-in_default-operand : goal.returns-in_default-operand
returns-in_default-operand g c =
    let m = c.args.m.now in
    let args = drop c.args.at m.stack.values in
    let l = level c.args.p.now c.args.b.now.level in
    let none = ap (λ v. operand m.state.texts false v) (sym c.argument_or_nil.ensures) ∙ sym c.operand.ensures ∙ c.in_default-operand.is in
    record {
      leads = λ k. from (step_bad_number c.args.p.now l c.args.site (world m) k args c.in-Some.object (sym c.argument.ensures ∙ c.in-Some.is) none) (fault_leads m c.bad_argument-in_default-operand.new.m k c.args.p.now c.args.site.line (lua.BadArgument 2 (codes "ipairs_step")) c.bad_argument-in_default-operand.ensures);
      stack = tt;
    }

pub returns-in-Failed : goal.returns-in-Failed
returns-in-Failed g c =
    let m = c.args.m.now in
    let args = drop c.args.at m.stack.values in
    let l = level c.args.p.now c.args.b.now.level in
    let n = c.in-Some-operand.before in
    let i = wrapped (n +ℤ pos 1) in
    let some = ap (λ v. operand m.state.texts false v) (sym c.argument_or_nil.ensures) ∙ sym c.operand.ensures ∙ c.in-Some-operand.is in
    let fits_n : FitsSigned w64 n = search rules in
    let place = rw (to_z-of_z w64 n fits_n) at c.add-place.ensures in
    let fits : FitsSigned w64 c.add-place.result = search rules in
    let indexed = rw (c.inner.ensures, to_z-of_z w64 c.add-place.result fits, place) at c.in-Failed.ensures.leads in
    record {
      leads = λ k. from (step_goes c.args.p.now l c.args.site (world m) k args c.in-Some.object n (sym c.argument.ensures ∙ c.in-Some.is) some) (indexed (and_then k (item_next c.args.p.now l c.args.site (world m) k i)));
      stack = tt;
    }

pub returns : goal.returns
returns g c =
    let m = c.args.m.now in
    let args = drop c.args.at m.stack.values in
    let l = level c.args.p.now c.args.b.now.level in
    let n = c.in-Some-operand.before in
    let i = wrapped (n +ℤ pos 1) in
    let some = ap (λ v. operand m.state.texts false v) (sym c.argument_or_nil.ensures) ∙ sym c.operand.ensures ∙ c.in-Some-operand.is in
    let fits_n : FitsSigned w64 n = search rules in
    let place = rw (to_z-of_z w64 n fits_n) at c.add-place.ensures in
    let fits : FitsSigned w64 c.add-place.result = search rules in
    let indexed = rw (c.inner.ensures, to_z-of_z w64 c.add-place.result fits, place) at c.in-Well.ensures.leads in
    let given = rw (to_z-of_z w64 c.add-place.result fits, place) at (c.give_item.ensures c.args.p.now l c.args.site) in
    let stack = rw c.in-Well.ensures.stack at given.stack in
    record {
      leads = λ k. from (step_goes c.args.p.now l c.args.site (world m) k args c.in-Some.object n (sym c.argument.ensures ∙ c.in-Some.is) some) (leads_on (indexed (and_then k (item_next c.args.p.now l c.args.site (world m) k i))) (given.leads k));
      stack = stack;
    }
