use Rattle.std.proofs.Common.{rules, ap, ◌∙◌}
use Rattle.std.proofs.lemmas.Int.{to_z-of_z}
use Rattle.std.specs.Prelude.{FitsSigned}
use mir.Syntax.{w64}
use Rattle.lua_program.specs.declared.expr.RField.{out-RField}
use Rattle.lua_program.specs.declared.expr.RField.TheVariants.{outs-Item}
use Rattle.lua_meaning.specs.Levels.{level}
use Rattle.lua_meaning.specs.Expressions.{last_field}
use Rattle.lua_machine.specs.Does.{frame, world}
use Rattle.lua_machine.proofs.Leads.{from}
use Rattle.lua_objects.proofs.fields.last_field.Goals as goal

pub returns-in-Item : goal.returns-in-Item
returns-in-Item g c =
    let a = c.args in
    let m = a.m.now in
    let l = level a.p.now a.b.now.level in
    let f = frame a.f.now m.stack in
    let fits : FitsSigned w64 a.i = search rules in
    let item = rw (to_z-of_z w64 a.i fits) at (c.last_item.ensures a.line) in
    record {
      leads = λ k. from (ap (λ d. last_field a.p.now l f a.line a.id a.i d (world m) k) (ap out-RField c.in-Item.is ∙ outs-Item c.in-Item.e)) (item.leads k);
      stack = item.stack;
    }
