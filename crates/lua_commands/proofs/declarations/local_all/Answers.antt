use Rattle.std.proofs.Common.{refl, length}
use Rattle.lua_meaning.specs.Run.{and_then}
use Rattle.lua_meaning.specs.Levels.{level}
use Rattle.lua_meaning.specs.Statements.{declare_all, refs_of}
use Rattle.lua_machine.specs.Does.{frame}
use Rattle.lua_machine.proofs.Frames.{fits_above}
use Rattle.lua_commands.proofs.ValueTurns.{declared_with}
use Rattle.lua_commands.proofs.declarations.local_all.Goals as goal

pub returns-in-Failed : goal.returns-in-Failed
returns-in-Failed g c = record { leads = λ k. c.in-Failed.ensures.leads (and_then k (λ vs w. declare_all c.args.p.now (refs_of c.args.ls.now) vs (frame c.args.f.now c.args.m.now.stack) w k)); stack = tt }

pub declare_all-requires-clause-fits : goal.declare_all-requires-clause-fits
declare_all-requires-clause-fits g c = fits_above c.args.f.now c.args.m.now.stack c.exactly.new.m.stack c.requires.fits c.in-Well.ensures.stack

pub returns : goal.returns
returns g c =
    let l = level c.args.p.now c.args.b.now.level in
    declared_with c.args.p.now l c.args.f.now c.args.es.now c.args.m.now c.exactly.new.m c.declare_all.new.m c.requires.fits (length c.args.ls.now) c.len-at.result c.len-at.ensures c.in-Well.ensures c.args.ls.now refl c.declare_all.result c.declare_all.ensures
