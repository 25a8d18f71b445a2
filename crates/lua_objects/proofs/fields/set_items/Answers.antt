use Rattle.std.proofs.Common.{rules, refl, sym, ap, ◌∙◌, arith, Some, drop, ◌+◌}
use Rattle.std.proofs.lemmas.Int.{to_z-of_z}
use Rattle.std.specs.Prelude.{FitsSigned, slice_get}
use mir.Syntax.{w64}
use mir.Val.{to_z}
use Rattle.lua_meaning.specs.Run.{here, and_then}
use Rattle.lua_meaning.specs.Expressions.{items, next_item}
use Rattle.lua_machine.specs.Piled.{cut}
use Rattle.lua_machine.specs.Does.{world}
use Rattle.lua_machine.proofs.Leads.{leads_on, from, upto}
use Rattle.lua_objects.proofs.FieldTurns.{item_at, items_end}
use Rattle.lua_objects.proofs.Stacks.{value_there}
use Rattle.lua_objects.proofs.fields.set_items.Goals as goal

pub loop-place-init : goal.loop-place-init
loop-place-init g c = record { goes = λ p lv f line k. here; stack = refl }

pub returns-in-Failed : goal.returns-in-Failed
returns-in-Failed g c = λ p l f line.
    let inv = c.loop-place.invariant in
    let vs = c.args.m.now.stack.values in
    let m1 = c.loop-place.m in
    let n = c.loop-place.place in
    let key = to_z w64 c.loop-place.key-bits in
    let v = c.at-m.result in
    let there = value_there vs n v (ap (λ s. slice_get s.values (n + 0)) (sym inv.stack) ∙ c.at-m.ensures) in
    let fits : FitsSigned w64 c.args.first = search rules in
    record {
      leads = λ k. leads_on (rw (to_z-of_z w64 c.args.first fits) at (inv.goes p l f line k))
          (from (item_at p l f line c.args.id (world m1) k key vs n v (omega arith) there)
          (c.in-Failed.ensures.leads (and_then k (λ u w. items p l f line c.args.id (next_item p l f line key) (drop (n + 1) vs) w k))));
      stack = tt;
    }

pub loop-place-preserved : goal.loop-place-preserved
loop-place-preserved g c =
    let inv = c.loop-place.invariant in
    let vs = c.args.m.now.stack.values in
    let m1 = c.loop-place.m in
    let m2 = c.put.new.m in
    let n = c.loop-place.place in
    let key = to_z w64 c.loop-place.key-bits in
    let v = c.at-m.result in
    let there = value_there vs n v (ap (λ s. slice_get s.values (n + 0)) (sym inv.stack) ∙ c.at-m.ensures) in
    let fits : FitsSigned w64 c.add-key.result = search rules in
    let next = to_z-of_z w64 c.add-key.result fits ∙ c.add-key.ensures in
    record {
      goes = λ p l f line k. leads_on (inv.goes p l f line k)
          (from (item_at p l f line c.args.id (world m1) k key vs n v (omega arith) there)
          (upto (ap (λ i. Some (items p l f line c.args.id i (drop (n + 1) vs) (world m2) k)) (sym next))
          (c.in-Well.ensures.leads (and_then k (λ u w. items p l f line c.args.id (next_item p l f line key) (drop (n + 1) vs) w k)))));
      stack = c.in-Well.ensures.stack ∙ inv.stack;
    }

pub returns : goal.returns
returns g c = λ p l f line.
    let inv = c.loop-place.invariant in
    let vs = c.args.m.now.stack.values in
    let m1 = c.loop-place.m in
    let key = to_z w64 c.loop-place.key-bits in
    let fits : FitsSigned w64 c.args.first = search rules in
    record {
      leads = λ k. leads_on (rw (to_z-of_z w64 c.args.first fits) at (inv.goes p l f line k))
          (from (items_end p l f line c.args.id (world m1) k key vs c.loop-place.place (omega arith)) here);
      stack = c.cut.ensures ∙ ap (cut c.args.at) inv.stack;
    }
