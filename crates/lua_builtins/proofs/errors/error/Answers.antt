use Rattle.std.proofs.Common.{ap, sym, ◌∙◌, drop, codes, rules}
use Rattle.std.proofs.lemmas.Int.{to_z-of_z}
use mir.Val.{SFits}
use mir.Syntax.{w64}
use Rattle.object_store.specs.declared.fault.LuaFault.TheVariants as lua
use Rattle.lua_meaning.specs.Library.{positioned}
use Rattle.lua_machine.specs.Does.{world}
use Rattle.lua_machine.proofs.Leads.{from}
use Rattle.lua_machine.proofs.Failures.{fault_leads}
use Rattle.lua_builtins.proofs.ErrorTurns.{error_bad, error_bad_level, error_goes}
use Rattle.lua_builtins.proofs.errors.error.Goals as goal

pub returns-in_default : goal.returns-in_default
returns-in_default g c = λ l.
    let m = c.args.m.now in
    let args = drop c.args.at m.stack.values in
    record {
      leads = λ k. from (error_bad c.args.p.now l c.args.site (world m) k args (sym c.argument.ensures ∙ c.in_default.is)) (fault_leads m c.bad_argument.new.m k c.args.p.now c.args.site.line (lua.BadArgument 1 (codes "error")) c.bad_argument.ensures);
      stack = tt;
    }

pub returns-in_default-level_of : goal.returns-in_default-level_of
returns-in_default-level_of g c = λ l.
    let m = c.args.m.now in
    let args = drop c.args.at m.stack.values in
    record {
      leads = λ k. from (error_bad_level c.args.p.now l c.args.site (world m) k args c.in-Some.value c.level_of.result (sym c.argument.ensures ∙ c.in-Some.is) (c.level_of.ensures c.args.p.now l c.args.site) c.in_default-level_of.is) (fault_leads m c.bad_argument-in_default-level_of.new.m k c.args.p.now c.args.site.line (lua.BadArgument 2 (codes "error")) c.bad_argument-in_default-level_of.ensures);
      stack = tt;
    }

pub returns : goal.returns
returns g c = λ l.
    let m = c.args.m.now in
    let args = drop c.args.at m.stack.values in
    let p = c.args.p.now in
    let fits : SFits w64 c.in-Some-level_of.level = search rules in
    let line = rw to_z-of_z at (c.line_of.ensures p l) in
    record {
      leads = λ k. from (error_goes p l c.args.site (world m) k args c.in-Some.value c.level_of.result c.in-Some-level_of.level (sym c.argument.ensures ∙ c.in-Some.is) (c.level_of.ensures p l c.args.site) c.in-Some-level_of.is
          ∙ ap (λ n. positioned p l c.args.site n c.in-Some.value (world m) k) (sym line)) (c.raise_positioned.ensures l c.args.site k);
      stack = tt;
    }
