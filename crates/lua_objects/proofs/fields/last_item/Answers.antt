use Rattle.std.proofs.Common.{rules, refl, length, Ok}
use Rattle.std.proofs.lemmas.Int.{to_z-of_z}
use Rattle.std.specs.Prelude.{FitsSigned}
use mir.Syntax.{w64}
use Rattle.lua_meaning.specs.Run.{and_then}
use Rattle.lua_meaning.specs.Levels.{level}
use Rattle.lua_meaning.specs.Expressions.{items}
use Rattle.lua_machine.specs.Does.{frame, world}
use Rattle.lua_machine.proofs.Leads.{leads_on, upto}
use Rattle.lua_objects.proofs.Parts.{nothing_after, still}
use Rattle.lua_objects.proofs.Stacks.{cut_all, cut_above}
use Rattle.lua_objects.proofs.fields.last_item.Goals as goal

pub returns-in-One : goal.returns-in-One
returns-in-One g c = λ line.
    let a = c.args in
    let l = level a.p.now a.b.now.level in
    let s = a.m.now.stack in
    let f = frame a.f.now s in
    let m2 = c.put.new.m in
    let fits : FitsSigned w64 a.i = search rules in
    let set = rw (to_z-of_z w64 a.i fits) at c.put.ensures.leads in
    record {
      leads = λ k. leads_on (c.in-One.ensures.leads (and_then k (λ vs w. items a.p.now l f line a.id a.i vs w k)))
          (upto (nothing_after c.put.result m2 k (world m2)) (set (and_then k (λ u w. k (Ok tt) w))));
      stack = still c.put.result s c.many.new.m.stack m2.stack (cut_all s c.many.new.m.stack (length s.values) refl c.in-One.ensures.stack) c.put.ensures.stack;
    }

pub returns-in-Many : goal.returns-in-Many
returns-in-Many g c = λ line.
    let a = c.args in
    let l = level a.p.now a.b.now.level in
    let s = a.m.now.stack in
    let f = frame a.f.now s in
    let m1 = c.many.new.m in
    let m2 = c.set_items.new.m in
    let fits : FitsSigned w64 a.i = search rules in
    let all = rw (to_z-of_z w64 a.i fits) at (c.set_items.ensures a.p.now l f line) in
    let leads = rw c.len-at.ensures at all.leads in
    record {
      leads = λ k. leads_on (c.in-Many.ensures.leads (and_then k (λ vs w. items a.p.now l f line a.id a.i vs w k))) (leads k);
      stack = still c.set_items.result s _ m2.stack (cut_above s m1.stack c.len-at.result c.len-at.ensures c.in-Many.ensures.stack) all.stack;
    }
