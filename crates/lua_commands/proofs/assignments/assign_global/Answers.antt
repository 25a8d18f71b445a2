use Rattle.std.proofs.Common.{ap, sym, ◌∙◌}
use Rattle.lua_meaning.specs.Run.{here}
use Rattle.lua_meaning.specs.Level.{or_broken}
use Rattle.lua_meaning.specs.Levels.{level}
use Rattle.lua_meaning.specs.Statements.{global_target}
use Rattle.lua_machine.specs.Does.{frame, world}
use Rattle.lua_machine.proofs.Leads.{from}
use Rattle.lua_meaning.specs.Expressions.{globals}
use Rattle.lua_commands.specs.Assigned.{stored_in, field_set}
use Rattle.lua_commands.proofs.Follow.{after_value, no_value, locals_moved}
use Rattle.lua_commands.proofs.Singles.{globals_is}
use Rattle.lua_commands.proofs.assignments.assign_global.Goals as goal

pub returns-in_default : goal.returns-in_default
returns-in_default g c =
    let a = c.args in
    let m = a.m.now in
    record {
      leads = λ k. from (ap (λ o. stored_in a.p.now (level a.p.now a.b.now.level) (frame a.f.now m.stack) a.e.now k (global_target a.line (or_broken o)) (world m)) (sym c.key.ensures ∙ c.in_default.is)) (rw c.broken.ensures here);
      stack = tt;
    }

pub returns-in-Failed : goal.returns-in-Failed
returns-in-Failed g c = rw (sym c.key.ensures ∙ c.in-Some.is) (no_value c.args.f.now c.args.m.now c.one.new.m _ _ c.in-Failed.ensures)

pub returns : goal.returns
returns g c =
    let m1 = c.one.new.m in
    let p = c.args.p.now in
    let set0 = rw (globals_is c.globals.result c.globals.ensures.number) at c.set_field.ensures.locals in
    let set = locals_moved c.args.f.now m1 c.set_field.new.m c.set_field.result m1.stack c.args.m.now.stack c.in-Well.ensures.stack (λ x. field_set p (level p c.args.b.now.level) x c.args.line globals c.in-Some.key m1.value (world m1)) set0 in
    rw (sym c.key.ensures ∙ c.in-Some.is) (after_value c.args.f.now c.args.m.now c.one.new.m c.set_field.new.m _ _ c.set_field.result c.in-Well.ensures set)
