use Rattle.lua_meaning.specs.Levels.{level}
use Rattle.lua_machine.specs.Does.{frame, world}
use Rattle.lua_machine.proofs.Leads.{from, one_given}
use Rattle.lua_expressions.proofs.FormTurns.{name_local}
use Rattle.lua_expressions.proofs.names.name.Goals as goal

pub returns-in_default : goal.returns-in_default
returns-in_default g c =
    let m = c.args.m.now in
    let p = c.args.p.now in
    let given = one_given g.H.Host.asked m c.read.new.self c.read.result _ c.read.ensures.kept c.read.ensures.value in
    record {
      leads = λ k. from (name_local p (level p c.args.b.now.level) (frame c.args.f.now m.stack) c.args.line c.args.r.now (world m) k c.in_default.not-Global) (given.leads k);
      stack = given.stack;
    }
