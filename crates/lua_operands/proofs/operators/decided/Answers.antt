use Rattle.std.proofs.Common.{ap, refl, sym, ◌∙◌, Ok, Some}
use Rattle.lua_meaning.specs.Run.{and_then}
use Rattle.lua_meaning.specs.Names.{is_true}
use Rattle.lua_meaning.specs.Operate.{decided_by, decided}
use Rattle.lua_machine.specs.Does.{world}
use Rattle.lua_machine.proofs.Leads.{leads_on, from, upto}
use Rattle.lua_operands.proofs.Comparisons.{truthy_is}
use Rattle.lua_operands.proofs.operators.decided.Goals as goal

pub returns-in-Failed : goal.returns-in-Failed
unfolding decided_by
returns-in-Failed g c = record { leads = λ k. c.in-Failed.ensures.leads (and_then k (λ v w. k (Ok (decided c.args.op (is_true v))) w)); stack = tt }

pub returns : goal.returns
unfolding decided_by
returns g c =
    let v = c.handled.new.m.value in
    let truth = c.is_truthy-truth.ensures ∙ truthy_is v in
    let e = c.from_bool-m.ensures ∙ c.as_asked.ensures ∙ ap (decided c.args.op) truth in
    record {
      leads = λ k. upto (ap (λ x. Some (k (Ok x) (world c.handled.new.m))) (sym e)) (c.in-Well.ensures.leads (and_then k (λ v w. k (Ok (decided c.args.op (is_true v))) w)));
      stack = c.in-Well.ensures.stack;
    }
