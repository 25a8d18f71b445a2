use Rattle.std.proofs.Common.{refl, ap, sym, ◌∙◌, Ok}
use Rattle.object_store.specs.Value.{is_nil}
use Rattle.lua_ops.specs.declared.step.Step.TheVariants as step
use Rattle.lua_meaning.specs.Run.{here}
use Rattle.lua_meaning.specs.Levels.{level}
use Rattle.lua_meaning.specs.Operate.{index, on_index}
use Rattle.lua_machine.specs.Does.{world}
use Rattle.lua_machine.proofs.Leads.{from}
use Rattle.lua_operands.proofs.Raws.{raw_indexed}
use Rattle.lua_operands.proofs.fields.index.Goals as goal

pub returns-then-not-is_nil : goal.returns-then-not-is_nil
returns-then-not-is_nil g c =
    let a = c.args in
    let m = a.m.now in
    let l = level a.p.now a.b.now.level in
    let live = ap is_nil (sym c.raw_index-value.ensures) ∙ sym c.is_nil.ensures ∙ c.if-not-is_nil.true in
    record {
      leads = λ k. from (ap (λ o. index a.p.now l a.line a.from o m.value (world m) k) c.in-Table.is
          ∙ ap (λ s. on_index a.p.now l a.line a.from m.value s (world m) k) (raw_indexed m.state.heap c.in-Table.id m.value live)
          ∙ ap (λ v. k (Ok v) (world m)) (sym c.raw_index-value.ensures)) here;
      stack = refl;
    }
