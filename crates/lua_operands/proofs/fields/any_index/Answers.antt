use Rattle.std.proofs.Common.{ap, sym, ◌∙◌}
use Rattle.lua_meaning.specs.Operate.{on_index}
use Rattle.lua_meaning.specs.Levels.{level}
use Rattle.lua_machine.specs.Does.{world}
use Rattle.lua_machine.proofs.Leads.{from}
use Rattle.lua_machine.proofs.Failures.{fault_leads}
use Rattle.lua_operands.proofs.fields.any_index.Goals as goal

pub returns-in-Ok : goal.returns-in-Ok
returns-in-Ok g c =
    let a = c.args in
    record {
      leads = λ k. from (ap (λ s. on_index a.p.now (level a.p.now a.b.now.level) a.line a.from a.m.now.value s (world a.m.now) k) (sym c.index.ensures ∙ c.in-Ok.is)) (c.index_step.ensures.leads k);
      stack = c.index_step.ensures.stack;
    }

pub returns-in-Err : goal.returns-in-Err
returns-in-Err g c =
    let a = c.args in
    record {
      leads = λ k. from (ap (λ s. on_index a.p.now (level a.p.now a.b.now.level) a.line a.from a.m.now.value s (world a.m.now) k) (sym c.index.ensures ∙ c.in-Err.is)) (fault_leads a.m.now c.fault_at.new.self k a.p.now a.line c.in-Err.fault c.fault_at.ensures);
      stack = tt;
    }
