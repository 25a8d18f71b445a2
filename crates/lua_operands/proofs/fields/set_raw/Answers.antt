use Rattle.std.proofs.Common.{ap, sym, ◌∙◌, refl, if◌then◌else◌, true}
use Rattle.object_store.specs.declared.fault.LuaFault.TheVariants as lua
use Rattle.lua_meaning.specs.Faults.{fault_at}
use Rattle.lua_meaning.specs.Operate.{put}
use Rattle.lua_machine.specs.Does.{world}
use Rattle.lua_machine.proofs.Leads.{from}
use Rattle.lua_machine.proofs.Failures.{fault_leads}
use Rattle.lua_operands.proofs.fields.set_raw.Goals as goal

pub returns-then-is_nil : goal.returns-then-is_nil
returns-then-is_nil g c =
    let a = c.args in
    record {
      leads = λ k. from (ap (λ b. if b then fault_at a.p.now a.line lua.NilKey (world a.m.now) k else put a.id a.key a.m.now.value (world a.m.now) k) (sym c.is_nil.ensures ∙ c.if-is_nil.true)) (fault_leads a.m.now c.fault_at.new.self k a.p.now a.line lua.NilKey c.fault_at.ensures);
      stack = tt;
    }
