use Rattle.std.proofs.Common.{◌≡◌, ◌++◌, ◌∷◌, [], ap, sym, ◌∙◌, ◌+◌, drop, Some, arith}
use Rattle.lanes_lib.specs.Face.{item_pieces}
use Rattle.lua_meaning.specs.Run.{lost, and_then}
use Rattle.lua_meaning.specs.Levels.{past_last}
use Rattle.lua_meaning.specs.Library.{placed}
use Rattle.lua_machine.specs.Piled.{cut}
use Rattle.lua_machine.specs.Does.{world}
use Rattle.lua_machine.proofs.Leads.{from, upto, leads_on}
use Rattle.lua_machine.proofs.Windows.{from_seam}
use Rattle.lua_builtins.proofs.Stacks.{cut_is_above}
use Rattle.lua_builtins.proofs.Received.{placed_next, placed_at, placed_end, one_more, above_push}
use Rattle.lua_builtins.proofs.answers.give_received.Goals as goal

pub returns-in-Failed : goal.returns-in-Failed
returns-in-Failed g c = λ l.
    let a = c.args in
    let key = c.in-Failed.ensures l in
    record { leads = λ k. key.leads (and_then k (placed_next a.p.now l a.site k [] a.items.now)); stack = tt }

pub returns-in-Failed-push : goal.returns-in-Failed-push
returns-in-Failed-push g c = λ l.
    let a = c.args in
    let key = c.in-Well.ensures l in
    record { leads = λ k. leads_on (key.leads (and_then k (placed_next a.p.now l a.site k [] a.items.now))) (rw c.in-Failed-push.ensures lost); stack = tt }

pub loop-item-init : goal.loop-item-init
loop-item-init g c =
    let a = c.args in
    let m = a.m.now in
    let s = m.stack in
    let m1 = c.place_key.new.m in
    let m2 = c.push.new.self in
    let pushed = c.in-Well-push.ensures in
    let cut_to : m1.stack ≡ cut a.at s = (let key = c.in-Well.ensures past_last in key.stack ∙ c.cut.ensures) in
    let stack = ap (λ x. x.stack) pushed in
    let values : drop a.at m2.stack.values ≡ m1.value ∷ [] = ap (λ x. drop a.at x.values) stack ∙ ap (λ x. drop a.at (x.values ++ m1.value ∷ [])) cut_to ∙ from_seam a.at s.values (m1.value ∷ []) c.requires in
    record {
      goes = λ l k.
          (let key = c.in-Well.ensures l in
          upto (ap (λ x. Some (placed a.p.now l a.site x (item_pieces a.items.now) (world m1) k)) (sym values) ∙ ap (λ w. Some (placed a.p.now l a.site (drop a.at m2.stack.values) (item_pieces a.items.now) w k)) (sym (ap world pushed)))
          (rw pushed (key.leads (and_then k (placed_next a.p.now l a.site k [] a.items.now)))));
      above = above_push a.at s m1.stack m2.stack m1.value (rw cut_to (cut_is_above a.at s c.requires)) stack;
    }

pub returns-in-Failed-place_item : goal.returns-in-Failed-place_item
returns-in-Failed-place_item g c = λ l.
    let a = c.args in
    let inv = c.loop-item.invariant in
    let m1 = c.loop-item.m in
    let i = c.loop-item.item-index in
    let item = c.in-Failed-place_item.ensures l in
    let vs = drop a.at m1.stack.values in
    record {
      leads = λ k. leads_on (inv.goes l k) (from (placed_at a.p.now l a.site k vs a.items.now i c.item-item.result (world m1) (omega arith) c.item-item.is) (item.leads (and_then k (placed_next a.p.now l a.site k vs (drop (i + 1) a.items.now)))));
      stack = tt;
    }

pub returns-in-Failed-push-2 : goal.returns-in-Failed-push-2
returns-in-Failed-push-2 g c = λ l.
    let a = c.args in
    let inv = c.loop-item.invariant in
    let m1 = c.loop-item.m in
    let i = c.loop-item.item-index in
    let item = c.in-Well-place_item.ensures l in
    let vs = drop a.at m1.stack.values in
    record {
      leads = λ k. leads_on (inv.goes l k) (from (placed_at a.p.now l a.site k vs a.items.now i c.item-item.result (world m1) (omega arith) c.item-item.is) (leads_on (item.leads (and_then k (placed_next a.p.now l a.site k vs (drop (i + 1) a.items.now)))) (rw c.in-Failed-push-2.ensures lost)));
      stack = tt;
    }

pub loop-item-preserved : goal.loop-item-preserved
loop-item-preserved g c =
    let a = c.args in
    let inv = c.loop-item.invariant in
    let m1 = c.loop-item.m in
    let m2 = c.place_item.new.m in
    let m3 = c.push-in-loop-item.new.self in
    let i = c.loop-item.item-index in
    let vs = drop a.at m1.stack.values in
    let pushed = c.in-Well-push-2.ensures in
    let kept : m2.stack ≡ m1.stack = (let item = c.in-Well-place_item.ensures past_last in item.stack) in
    let stack = ap (λ x. x.stack) pushed in
    let values : drop a.at m3.stack.values ≡ vs ++ m2.value ∷ [] = ap (λ x. drop a.at x.values) stack ∙ ap (λ x. drop a.at (x.values ++ m2.value ∷ [])) kept ∙ one_more a.at m1.stack.values m2.value inv.above.within in
    record {
      goes = λ l k.
          (let item = c.in-Well-place_item.ensures l in
          leads_on (inv.goes l k) (from (placed_at a.p.now l a.site k vs a.items.now i c.item-item.result (world m1) (omega arith) c.item-item.is)
          (upto (ap (λ x. Some (placed a.p.now l a.site x (item_pieces (drop (i + 1) a.items.now)) (world m2) k)) (sym values) ∙ ap (λ w. Some (placed a.p.now l a.site (drop a.at m3.stack.values) (item_pieces (drop (i + 1) a.items.now)) w k)) (sym (ap world pushed)))
          (rw pushed (item.leads (and_then k (placed_next a.p.now l a.site k vs (drop (i + 1) a.items.now))))))));
      above = above_push a.at a.m.now.stack m2.stack m3.stack m2.value (rw kept inv.above) stack;
    }

pub returns : goal.returns
returns g c = λ l.
    let a = c.args in
    let inv = c.loop-item.invariant in
    let m1 = c.loop-item.m in
    record {
      leads = λ k. upto (ap Some (placed_end a.p.now l a.site k (drop a.at m1.stack.values) a.items.now c.loop-item.item-index (world m1) (omega arith))) (inv.goes l k);
      stack = inv.above;
    }
