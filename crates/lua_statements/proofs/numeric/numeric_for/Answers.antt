use Rattle.std.proofs.Common.{ap, refl, sym, ◌∙◌}
use Rattle.lua_machine.proofs.Leads.{leads_on}
use Rattle.lua_statements.proofs.numeric.numeric_for.Goals as goal

pub returns-in-Failed-one : goal.returns-in-Failed-one
returns-in-Failed-one g c =
    let second = rw c.in-Well.ensures.stack at c.in-Failed-one.ensures.leads in
    record { leads = λ k. leads_on (c.in-Well.ensures.leads _) (second _); stack = tt }

pub returns-in-Failed-for_step : goal.returns-in-Failed-for_step
returns-in-Failed-for_step g c =
    let second = rw c.in-Well.ensures.stack at c.in-Well-one.ensures.leads in
    let third = rw (c.in-Well-one.ensures.stack, c.in-Well.ensures.stack) at c.in-Failed-for_step.ensures.leads in
    record { leads = λ k. leads_on (c.in-Well.ensures.leads _) (leads_on (second _) (third _)); stack = tt }

pub returns : goal.returns
returns g c =
    let same = c.in-Well-for_step.ensures.stack ∙ c.in-Well-one.ensures.stack ∙ c.in-Well.ensures.stack in
    let second = rw c.in-Well.ensures.stack at c.in-Well-one.ensures.leads in
    let third = rw (c.in-Well-one.ensures.stack, c.in-Well.ensures.stack) at c.in-Well-for_step.ensures.leads in
    let loop = rw same at c.for_on.ensures.leads in
    record {
      leads = λ k. leads_on (c.in-Well.ensures.leads _) (leads_on (second _) (leads_on (third _) (loop k)));
      stack = rw same at c.for_on.ensures.stack;
    }
