use Rattle.std.proofs.Common.{ap, sym, ◌∙◌}
use Rattle.lua_meaning.specs.Run.{more}
use Rattle.lua_meaning.specs.Library.{took}
use Rattle.lua_machine.specs.Does.{world}
use Rattle.lua_machine.proofs.Leads.{from}
use Rattle.lua_builtins.proofs.Askings.{taken_as_print, taken_as_new, taken_as_linda}
use Rattle.lua_builtins.proofs.asking.asked.Goals as goal

pub returns-in-Print : goal.returns-in-Print
returns-in-Print g c = λ l.
    let m = c.args.m.now in
    let rest = c.took_print.ensures l in
    record {
      leads = λ k. more c.ask-answer.ensures (from (ap (λ t. took c.args.p.now l c.args.site t (world m) k) (taken_as_print c.args.ask c.ask-answer.result (sym c.kind_of-kind.ensures ∙ c.in-Print.is))) (rest.leads k));
      stack = rest.stack;
    }

pub returns-in-NewLinda : goal.returns-in-NewLinda
returns-in-NewLinda g c = λ l.
    let m = c.args.m.now in
    let rest = c.took_new.ensures l in
    record {
      leads = λ k. more c.ask-answer.ensures (from (ap (λ t. took c.args.p.now l c.args.site t (world m) k) (taken_as_new c.args.ask c.ask-answer.result (sym c.kind_of-kind.ensures ∙ c.in-NewLinda.is))) (rest.leads k));
      stack = rest.stack;
    }

pub returns : goal.returns
returns g c = λ l.
    let m = c.args.m.now in
    let rest = c.took_linda.ensures l in
    record {
      leads = λ k. more c.ask-answer.ensures (from (ap (λ t. took c.args.p.now l c.args.site t (world m) k) (taken_as_linda c.args.ask c.ask-answer.result (sym c.kind_of-kind.ensures ∙ c.in-Linda.is))) (rest.leads k));
      stack = rest.stack;
    }
