use Rattle.std.proofs.Common.{sym, ap}
use Rattle.lua_meaning.specs.Run.{and_then}
use Rattle.lua_meaning.specs.Levels.{level}
use Rattle.lua_meaning.specs.Statements.{block, with_locals}
use Rattle.lua_meaning.specs.Calls.{returned}
use Rattle.lua_machine.specs.Does.{frame, world}
use Rattle.lua_machine.proofs.Leads.{leads_on, from}
use Rattle.lua_machine.proofs.Frames.{frame_around, fits_around}
use Rattle.lua_calls.proofs.BodyEnds.{got_after}
use Rattle.lua_calls.proofs.bodies.run_in.Goals as goal

pub run_block-requires-clause-fits : goal.run_block-requires-clause-fits
run_block-requires-clause-fits g c = fits_around c.args.f.now c.args.m.now.stack c.param_cells.new.m.stack c.requires.fits c.in-Well.ensures.stack

pub returns-in-Well : goal.returns-in-Well
returns-in-Well g c =
    let a = c.args in
    let f = a.f.now in
    let s = a.m.now.stack in
    let m1 = c.param_cells.new.m in
    let l = level a.p.now a.b.now.level in
    let body = a.proto.now.body in
    let around = c.in-Well.ensures.stack in
    let cells = rw c.as_slice.ensures at c.in-Well.ensures.leads in
    let run = rw c.as_slice-in-Well.ensures at c.run_block.ensures.leads in
    record {
      leads = λ k. leads_on (cells (and_then k (λ locals w. block l body (with_locals (frame f s) locals) w (returned k))))
          (from (ap (λ x. block l body x (world m1) (returned k)) (sym (frame_around f s m1.stack c.requires.fits around))) (run k));
      stack = got_after f s m1.stack a.at c.requires.below c.run_block.result c.run_block.new.m.stack c.requires.fresh around c.run_block.ensures.stack;
    }

pub returns-in-Failed : goal.returns-in-Failed
returns-in-Failed g c =
    let a = c.args in
    let f = a.f.now in
    let s = a.m.now.stack in
    let l = level a.p.now a.b.now.level in
    let body = a.proto.now.body in
    let cells = rw c.as_slice.ensures at c.in-Failed.ensures.leads in
    record { leads = λ k. cells (and_then k (λ locals w. block l body (with_locals (frame f s) locals) w (returned k))); stack = tt }
