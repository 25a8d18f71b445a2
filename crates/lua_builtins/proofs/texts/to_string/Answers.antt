use Rattle.std.proofs.Common.{ap, sym, ◌∙◌, ◌∷◌, [], Ok, drop, codes}
use Rattle.lua_machine.specs.Piled.{cut}
use Rattle.object_store.specs.declared.fault.LuaFault.TheVariants as lua
use Rattle.lua_meaning.specs.Run.{and_then}
use Rattle.lua_meaning.specs.Levels.{level}
use Rattle.lua_machine.specs.Does.{world}
use Rattle.lua_machine.proofs.Leads.{from, leads_on}
use Rattle.lua_machine.proofs.Failures.{fault_leads}
use Rattle.lua_builtins.proofs.TextTurns.{string_next, to_string_bad, to_string_goes}
use Rattle.lua_builtins.proofs.texts.to_string.Goals as goal

pub returns-in_default : goal.returns-in_default
returns-in_default g c =
    let m = c.args.m.now in
    let l = level c.args.p.now c.args.b.now.level in
    record {
      leads = λ k. from (to_string_bad c.args.p.now l c.args.site (world m) k (drop c.args.at m.stack.values) (sym c.argument.ensures ∙ c.in_default.is)) (fault_leads m c.bad_argument.new.m k c.args.p.now c.args.site.line (lua.BadArgument 1 (codes "tostring")) c.bad_argument.ensures);
      stack = tt;
    }

pub returns-in-Failed : goal.returns-in-Failed
returns-in-Failed g c =
    let m = c.args.m.now in
    let l = level c.args.p.now c.args.b.now.level in
    record {
      leads = λ k. from (to_string_goes c.args.p.now l c.args.site (world m) k (drop c.args.at m.stack.values) c.in-Some.value (sym c.argument.ensures ∙ c.in-Some.is)) (c.in-Failed.ensures.leads (and_then k (string_next c.args.p.now l c.args.site (world m) k)));
      stack = tt;
    }

pub returns-in-Failed-intern : goal.returns-in-Failed-intern
returns-in-Failed-intern g c =
    let m = c.args.m.now in
    let l = level c.args.p.now c.args.b.now.level in
    let text = rw c.new-text.ensures.items at c.in-Well.ensures.leads in
    let made = rw c.as_slice.ensures.value at c.in-Failed-intern.ensures.leads in
    record {
      leads = λ k. from (to_string_goes c.args.p.now l c.args.site (world m) k (drop c.args.at m.stack.values) c.in-Some.value (sym c.argument.ensures ∙ c.in-Some.is)) (leads_on (text (and_then k (string_next c.args.p.now l c.args.site (world m) k))) (made (and_then k (λ v w. k (Ok (v ∷ [])) w))));
      stack = tt;
    }

pub returns : goal.returns
returns g c =
    let m = c.args.m.now in
    let l = level c.args.p.now c.args.b.now.level in
    let text = rw c.new-text.ensures.items at c.in-Well.ensures.leads in
    let made = rw c.as_slice.ensures.value at c.in-Well-intern.ensures.leads in
    record {
      leads = λ k. from (to_string_goes c.args.p.now l c.args.site (world m) k (drop c.args.at m.stack.values) c.in-Some.value (sym c.argument.ensures ∙ c.in-Some.is)) (leads_on (text (and_then k (string_next c.args.p.now l c.args.site (world m) k))) (made (and_then k (λ v w. k (Ok (v ∷ [])) w))));
      stack = c.cut.ensures ∙ ap (cut c.args.at) (c.in-Well-intern.ensures.stack ∙ c.in-Well.ensures.stack);
    }
