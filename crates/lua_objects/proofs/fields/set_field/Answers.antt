use Rattle.std.proofs.Common.{rules, sym, ap, ◌∙◌, pos, ◌+ℤ◌, Ok, ℤ}
use Rattle.std.proofs.lemmas.Int.{to_z-of_z}
use Rattle.std.specs.Prelude.{FitsSigned}
use mir.Syntax.{w64}
use Rattle.int_ops.specs.Wrapping.{wrapped}
use Rattle.lua_meaning.specs.Run.{and_then, Next}
use Rattle.lua_program.specs.declared.expr.RField.{out-RField}
use Rattle.lua_program.specs.declared.expr.RField.TheVariants.{outs-Item, outs-Keyed}
use Rattle.lua_meaning.specs.Levels.{level}
use Rattle.object_store.specs.declared.value.Value.TheVariants as V
use Rattle.lua_meaning.specs.Expressions.{set_field, set_value}
use Rattle.lua_machine.specs.Does.{frame, world}
use Rattle.lua_machine.proofs.Leads.{from}
use Rattle.lua_objects.specs.Fields.{next_key, set_keyed}
use Rattle.lua_objects.proofs.Nexts.{and_then_twice}
use Rattle.lua_objects.proofs.Parts.{key_after}
use Rattle.lua_objects.proofs.fields.set_field.Goals as goal

pub returns-in-Item : goal.returns-in-Item
returns-in-Item g c =
    let a = c.args in
    let m = a.m.now in
    let l = level a.p.now a.b.now.level in
    let f = frame a.f.now m.stack in
    let e = c.in-Item.e in
    let n = wrapped (a.i +ℤ pos 1) in
    let fits : FitsSigned w64 a.i = search rules in
    let fits_next : FitsSigned w64 c.add.result = search rules in
    let next = c.add.ensures ∙ ap (λ z. wrapped (z +ℤ pos 1)) (to_z-of_z w64 a.i fits) in
    let key = c.next_key.ensures ∙ ap (next_key c.set_item.result) (to_z-of_z w64 c.add.result fits_next ∙ next) in
    let item = rw (to_z-of_z w64 a.i fits) at (c.set_item.ensures a.line) in
    let after = key_after (set_value a.p.now l f a.line a.id (V.Int a.i) e (world m)) n m c.set_item.new.m c.set_item.result item in
    rw key (record { leads = λ k. from (ap (λ d. set_field a.p.now l f a.line a.id a.i d (world m) k) (ap out-RField c.in-Item.is ∙ outs-Item c.in-Item.e)) (after.leads k); stack = after.stack })

pub returns-in-Keyed : goal.returns-in-Keyed
returns-in-Keyed g c =
    let a = c.args in
    let m = a.m.now in
    let l = level a.p.now a.b.now.level in
    let f = frame a.f.now m.stack in
    let key = c.in-Keyed.key in
    let e = c.in-Keyed.e in
    let fits : FitsSigned w64 a.i = search rules in
    let next = rw (to_z-of_z w64 a.i fits) at c.next_key-in-Keyed.ensures in
    let after = key_after (set_keyed a.p.now l f a.line a.id key e (world m)) a.i m c.set_keyed.new.m c.set_keyed.result c.set_keyed.ensures in
    let same = λ (k : Next ℤ). ap (λ d. set_field a.p.now l f a.line a.id a.i d (world m) k) (ap out-RField c.in-Keyed.is ∙ outs-Keyed key e)
    ∙ ap (λ n. l.expr key f (world m) n) (sym (and_then_twice {B = Unit {0}} k (λ u w. k (Ok a.i) w) (λ v w. set_value a.p.now l f a.line a.id v e w (and_then k (λ u w. k (Ok a.i) w))))) in
    rw next (record { leads = λ k. from (same k) (after.leads k); stack = after.stack })
