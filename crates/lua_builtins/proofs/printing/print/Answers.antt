use Rattle.std.proofs.Common.{ap, sym, ◌∙◌, ◌+◌, drop, arith, length-drop, length}
use Rattle.std.proofs.lemmas.Option.{slice_get_within}
use Rattle.lua_meaning.specs.Run.{and_then}
use Rattle.lua_meaning.specs.Levels.{level}
use Rattle.lua_machine.specs.Does.{world}
use Rattle.lua_machine.proofs.Leads.{from, leads_on}
use Rattle.lua_builtins.proofs.TextTurns.{print_none, print_first, print_first_next}
use Rattle.lua_builtins.proofs.printing.print.Goals as goal

pub returns-in_default : goal.returns-in_default
returns-in_default g c =
    let m = c.args.m.now in
    let l = level c.args.p.now c.args.b.now.level in
    let said = rw c.new-line.ensures.items at (c.print_line.ensures l) in
    record {
      leads = λ k. from (print_none c.args.p.now l c.args.site k (drop c.args.at m.stack.values) (world m) (sym c.argument.ensures ∙ c.in_default.is)) (said.leads k);
      stack = said.stack;
    }

pub overflow_add-next : goal.overflow_add-next
overflow_add-next g c =
    let s = c.args.m.now.stack.values in
    omega (arith, length-drop c.args.at s, slice_get_within (drop c.args.at s) 0 c.in-Some.value (sym c.argument.ensures ∙ c.in-Some.is))

pub add_rest-requires-clause-within : goal.add_rest-requires-clause-within
add_rest-requires-clause-within g c =
    let s = c.args.m.now.stack.values in
    omega (arith, length-drop c.args.at s, slice_get_within (drop c.args.at s) 0 c.in-Some.value (sym c.argument.ensures ∙ c.in-Some.is), ap (λ x. length x.values) c.in-Well.ensures.stack)

pub returns-in-Failed : goal.returns-in-Failed
returns-in-Failed g c =
    let m = c.args.m.now in
    let s = m.stack.values in
    let at = c.args.at in
    let l = level c.args.p.now c.args.b.now.level in
    let text = c.in-Failed.ensures.leads in
    record {
      leads = λ k. from (print_first c.args.p.now l c.args.site k s at c.in-Some.value (world m) (sym c.argument.ensures ∙ c.in-Some.is)) (text (and_then k (print_first_next c.args.p.now l c.args.site k (drop (at + 1) s))));
      stack = tt;
    }

pub returns-in-Failed-add_rest : goal.returns-in-Failed-add_rest
returns-in-Failed-add_rest g c =
    let m = c.args.m.now in
    let s = m.stack.values in
    let at = c.args.at in
    let l = level c.args.p.now c.args.b.now.level in
    let text = rw c.new-line.ensures.items at c.in-Well.ensures.leads in
    let rest = rw c.in-Well.ensures.stack at c.in-Failed-add_rest.ensures.leads in
    record {
      leads = λ k. from (print_first c.args.p.now l c.args.site k s at c.in-Some.value (world m) (sym c.argument.ensures ∙ c.in-Some.is)) (leads_on (text (and_then k (print_first_next c.args.p.now l c.args.site k (drop (at + 1) s)))) (rest k));
      stack = tt;
    }

pub returns : goal.returns
returns g c =
    let m = c.args.m.now in
    let s = m.stack.values in
    let at = c.args.at in
    let l = level c.args.p.now c.args.b.now.level in
    let text = rw c.new-line.ensures.items at c.in-Well.ensures.leads in
    let rest = rw c.in-Well.ensures.stack at c.in-Well-add_rest.ensures.leads in
    let said = c.print_line-2.ensures l in
    let same = c.in-Well-add_rest.ensures.stack ∙ c.in-Well.ensures.stack in
    let stack = rw same at said.stack in
    record {
      leads = λ k. from (print_first c.args.p.now l c.args.site k s at c.in-Some.value (world m) (sym c.argument.ensures ∙ c.in-Some.is)) (leads_on (text (and_then k (print_first_next c.args.p.now l c.args.site k (drop (at + 1) s)))) (leads_on (rest k) (said.leads k)));
      stack = stack;
    }
