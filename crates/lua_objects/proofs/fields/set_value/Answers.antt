use Rattle.lua_meaning.specs.Run.{and_then}
use Rattle.lua_meaning.specs.Operate.{raw_set}
use Rattle.lua_machine.proofs.Leads.{leads_on}
use Rattle.lua_objects.proofs.fields.set_value.Goals as goal

pub returns-in-Well : goal.returns-in-Well
returns-in-Well g c =
    let a = c.args in
    record {
      leads = λ k. leads_on (c.in-Well.ensures.leads (and_then k (λ v w. raw_set a.p.now a.line a.id a.key v w k))) (c.set_raw.ensures.leads k);
      stack = rw c.in-Well.ensures.stack at c.set_raw.ensures.stack;
    }

pub returns-in-Failed : goal.returns-in-Failed
returns-in-Failed g c =
    let a = c.args in
    record { leads = λ k. c.in-Failed.ensures.leads (and_then k (λ v w. raw_set a.p.now a.line a.id a.key v w k)); stack = tt }
