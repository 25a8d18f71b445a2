use Rattle.std.proofs.Common.{◌≡◌, rules, refl, sym, ap, ◌∙◌, arith, Some, pos, drop, ◌+◌, ◌-◌, length, get_or}
use Rattle.std.proofs.lemmas.Int.{to_z-of_z}
use Rattle.std.specs.Prelude.{FitsSigned}
use mir.Syntax.{w64}
use mir.Val.{to_z}
use Rattle.lua_meaning.specs.Run.{here, and_then}
use Rattle.lua_meaning.specs.Levels.{level}
use Rattle.lua_meaning.specs.Expressions.{fields}
use Rattle.lua_machine.specs.Does.{frame, world}
use Rattle.lua_machine.proofs.Leads.{leads_on, from, upto}
use Rattle.lua_objects.proofs.FieldTurns.{field_next, field_last, field_none}
use Rattle.lua_objects.proofs.constructors.set_fields.Goals as goal

pub returns-then-n-eq0 : goal.returns-then-n-eq0
returns-then-n-eq0 g c =
    let a = c.args in
    let m = a.m.now in
    let l = level a.p.now a.b.now.level in
    record {
      leads = λ k. from (field_none a.p.now l (frame a.f.now m.stack) a.line a.id (world m) k (pos 1) a.fields.now (omega arith)) here;
      stack = refl;
    }

pub loop-i-init : goal.loop-i-init
loop-i-init g c = record { goes = λ k. here; stack = refl }

pub returns-in-None : goal.returns-in-None
returns-in-None g c =
    let a = c.args in
    let inv = c.loop-i.invariant in
    let l = level a.p.now a.b.now.level in
    let f = frame a.f.now a.m.now.stack in
    let n = c.loop-i.i in
    let key = to_z w64 c.loop-i.key-bits in
    let set = rw inv.stack at c.in-None.ensures.leads in
    record {
      leads = λ k. leads_on (inv.goes k) (from (field_next a.p.now l f a.line a.id (world c.loop-i.m) k key a.fields.now n c.index-fields-i.result (omega arith) c.index-fields-i.is)
          (set (and_then k (λ i w. fields a.p.now l f a.line a.id i (drop (n + 1) a.fields.now) w k))));
      stack = tt;
    }

pub loop-i-preserved : goal.loop-i-preserved
loop-i-preserved g c =
    let a = c.args in
    let inv = c.loop-i.invariant in
    let l = level a.p.now a.b.now.level in
    let f = frame a.f.now a.m.now.stack in
    let n = c.loop-i.i in
    let m2 = c.set_field.new.m in
    let key = to_z w64 c.loop-i.key-bits in
    let set = rw inv.stack at c.in-Some.ensures.leads in
    let fits : FitsSigned w64 c.in-Some.next = search rules in
    record {
      goes = λ k. leads_on (inv.goes k) (from (field_next a.p.now l f a.line a.id (world c.loop-i.m) k key a.fields.now n c.index-fields-i.result (omega arith) c.index-fields-i.is)
          (upto (ap (λ i. Some (fields a.p.now l f a.line a.id i (drop (n + 1) a.fields.now) (world m2) k)) (sym (to_z-of_z w64 c.in-Some.next fits)))
          (set (and_then k (λ i w. fields a.p.now l f a.line a.id i (drop (n + 1) a.fields.now) w k)))));
      stack = c.in-Some.ensures.stack ∙ inv.stack;
    }

pub returns : goal.returns
returns g c =
    let a = c.args in
    let inv = c.loop-i.invariant in
    let l = level a.p.now a.b.now.level in
    let f = frame a.f.now a.m.now.stack in
    let ds = a.fields.now in
    let n = c.loop-i.i in
    let key = to_z w64 c.loop-i.key-bits in
    let d = c.index-fields-n.result in
    let at : length ds - 1 ≡ n = omega arith in
    let last = rw inv.stack at c.last_field.ensures.leads in
    record {
      leads = λ k. leads_on (inv.goes k) (from (field_last a.p.now l f a.line a.id (world c.loop-i.m) k key ds n d (omega arith) (c.index-fields-n.is ∙ ap (λ i. get_or ds i d) at)) (last k));
      stack = rw inv.stack at c.last_field.ensures.stack;
    }
