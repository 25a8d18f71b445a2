use Rattle.std.proofs.Common.{rules}
use Rattle.std.proofs.lemmas.Int.{to_z-of_z}
use Rattle.std.specs.Prelude.{FitsSigned}
use mir.Syntax.{w64}
use Rattle.object_store.specs.declared.value.Value.TheVariants as V
use Rattle.lua_meaning.specs.Run.{and_then}
use Rattle.lua_meaning.specs.Operate.{raw_set}
use Rattle.lua_machine.proofs.Leads.{leads_on}
use Rattle.lua_objects.proofs.fields.set_item.Goals as goal

pub returns-in-Well : goal.returns-in-Well
returns-in-Well g c = λ line.
    let a = c.args in
    let fits : FitsSigned w64 a.i = search rules in
    let set = rw (to_z-of_z w64 a.i fits) at c.put.ensures.leads in
    record {
      leads = λ k. leads_on (c.in-Well.ensures.leads (and_then k (λ v w. raw_set a.p.now line a.id (V.Int a.i) v w k))) (set k);
      stack = rw c.in-Well.ensures.stack at c.put.ensures.stack;
    }

pub returns-in-Failed : goal.returns-in-Failed
returns-in-Failed g c = λ line.
    let a = c.args in
    record { leads = λ k. c.in-Failed.ensures.leads (and_then k (λ v w. raw_set a.p.now line a.id (V.Int a.i) v w k)); stack = tt }
