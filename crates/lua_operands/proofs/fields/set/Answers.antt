use Rattle.std.proofs.Common.{Bool, true, false, not, ◌≡◌, refl, ap, sym, ◌∙◌, true≢false, if◌then◌else◌}
use Rattle.object_store.specs.Value.{is_nil}
use Rattle.lua_meaning.specs.Levels.{level}
use Rattle.lua_meaning.specs.Operate as spec
use Rattle.lua_meaning.specs.Faults.{fault_at}
use Rattle.object_store.specs.declared.fault.LuaFault.TheVariants as lua
use Rattle.lua_machine.specs.Does.{world}
use Rattle.lua_machine.proofs.Leads.{from}
use Rattle.lua_operands.proofs.Raws.{live_target, plain_target}
use Rattle.lua_operands.proofs.fields.set.Goals as goal

pub returns-then-is_plain : goal.returns-then-is_plain
returns-then-is_plain g c =
    let a = c.args in
    let m = a.m.now in
    let l = level a.p.now a.b.now.level in
    record {
      leads = λ k. from (ap (λ o. spec.set a.p.now l a.line a.from o a.key m.value (world m) k) c.in-Table.is
          ∙ ap (λ s. spec.on_set a.p.now l a.line a.from a.key m.value s (world m) k) (plain_target m.state.heap c.in-Table.id a.key (sym c.is_plain.ensures ∙ c.if-is_plain.true)))
          (c.set_raw.ensures.leads k);
      stack = c.set_raw.ensures.stack;
    }

opposite : (b : Bool) → true ≡ not b → b ≡ false
opposite false e = refl
opposite true e = absurd (true≢false e)

pub returns-then-put_here : goal.returns-then-put_here
returns-then-put_here g c =
    let a = c.args in
    let m = a.m.now in
    let l = level a.p.now a.b.now.level in
    let live = opposite _ (sym c.if-put_here.true ∙ c.put_here.ensures.live) in
    let put = c.put_here.ensures.put c.if-put_here.true in
    record {
      leads = λ k. from (ap (λ o. spec.set a.p.now l a.line a.from o a.key m.value (world m) k) c.in-Table.is
          ∙ ap (λ s. spec.on_set a.p.now l a.line a.from a.key m.value s (world m) k) (live_target m.state.heap c.in-Table.id a.key live)
          ∙ ap (λ b. if b then fault_at a.p.now a.line lua.NilKey (world m) k else spec.put c.in-Table.id a.key m.value (world m) k) (sym c.is_nil.ensures ∙ c.if-not-is_nil.true))
          (put.leads k);
      stack = put.stack;
    }
