use Rattle.std.proofs.Common.{refl, length, []}
use Rattle.lua_meaning.specs.Run.{and_then}
use Rattle.lua_meaning.specs.Levels.{level}
use Rattle.lua_meaning.specs.Expressions.{exactly}
use Rattle.lua_meaning.specs.Statements.{stores}
use Rattle.lua_machine.specs.Does.{frame}
use Rattle.lua_machine.proofs.Frames.{fits_above}
use Rattle.lua_commands.proofs.AssignTurns.{values_lead, values_fit, assigned_all}
use Rattle.lua_commands.proofs.assignments.assign_all.Goals as goal

pub returns-in-Failed : goal.returns-in-Failed
returns-in-Failed g c =
    let l = level c.args.p.now c.args.b.now.level in
    let f = frame c.args.f.now c.args.m.now.stack in
    record { leads = λ k. c.in-Failed.ensures.leads (and_then k (λ ts w. exactly l (length ts) [] c.args.es.now f w (and_then k (λ vs w. stores c.args.p.now l ts vs f w k)))); stack = tt }

pub exactly-requires-clause-fits : goal.exactly-requires-clause-fits
exactly-requires-clause-fits g c = fits_above c.args.f.now c.args.m.now.stack c.push_targets.new.m.stack c.requires.fits c.in-Well.ensures.stack

pub returns-in-Failed-exactly : goal.returns-in-Failed-exactly
returns-in-Failed-exactly g c =
    let l = level c.args.p.now c.args.b.now.level in
    record {
      leads = λ k. values_lead c.args.p.now l c.args.f.now c.args.ts.now c.args.es.now c.args.m.now c.push_targets.new.m c.exactly.new.m c.requires.fits c.in-Well.ensures (length c.args.ts.now) refl _ c.in-Failed-exactly.ensures k;
      stack = tt;
    }

pub store_all-requires-clause-fits : goal.store_all-requires-clause-fits
store_all-requires-clause-fits g c =
    let l = level c.args.p.now c.args.b.now.level in
    values_fit c.args.p.now l c.args.f.now c.args.ts.now c.args.es.now c.args.m.now c.push_targets.new.m c.exactly.new.m c.requires.fits c.in-Well.ensures (length c.args.ts.now) refl c.in-Well-exactly.ensures c.exactly.new.m c.len-at.result c.len-from.result c.len-at.ensures c.len-from.ensures

pub returns : goal.returns
returns g c =
    let l = level c.args.p.now c.args.b.now.level in
    assigned_all c.args.p.now l c.args.f.now c.args.ts.now c.args.es.now c.args.m.now c.push_targets.new.m c.exactly.new.m c.requires.fits c.in-Well.ensures (length c.args.ts.now) refl c.in-Well-exactly.ensures c.store_all.new.m c.len-at.result c.len-from.result c.len-at.ensures c.len-from.ensures c.store_all.result c.store_all.ensures
