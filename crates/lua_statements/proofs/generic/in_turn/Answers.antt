use Rattle.std.proofs.Common.{sym, ap, ◌∙◌}
use Rattle.lua_meaning.specs.Run.{and_then}
use Rattle.lua_meaning.specs.Levels.{level}
use Rattle.lua_meaning.specs.Statements.{in_turn, block, with_locals}
use Rattle.lua_machine.specs.Piled.{cut}
use Rattle.lua_machine.specs.Does.{frame, locals, world}
use Rattle.lua_machine.proofs.Leads.{leads_on, from}
use Rattle.lua_machine.proofs.Frames.{frame_around, fits_around}
use Rattle.lua_statements.proofs.Flows.{flow_after}
use Rattle.lua_statements.proofs.LocalTurns.{fits_cut, frame_cut}
use Rattle.lua_statements.proofs.generic.in_turn.Goals as goal

pub returns-in-Failed : goal.returns-in-Failed
unfolding in_turn
returns-in-Failed g c = record { leads = λ k. c.in-Failed.ensures.meaning _; stack = tt }

pub returns-in-Failed-declare_all : goal.returns-in-Failed-declare_all
unfolding in_turn
returns-in-Failed-declare_all g c =
    let declared = rw c.in-Well.ensures.stack at c.in-Failed-declare_all.ensures.leads in
    record { leads = λ k. leads_on (c.in-Well.ensures.meaning _) (declared _); stack = tt }

pub block-requires-clause-fits : goal.block-requires-clause-fits
block-requires-clause-fits g c =
    let f = c.args.f.now in
    let s = c.args.m.now.stack in
    let around = rw c.in-Well.ensures.stack at c.in-Well-declare_all.ensures.stack in
    fits_around f (cut c.args.at s) c.declare_all.new.m.stack (fits_cut f s c.args.at c.requires.fits c.requires.above c.requires.within) around

pub returns-in-Well-declare_all : goal.returns-in-Well-declare_all
unfolding in_turn
returns-in-Well-declare_all g c =
    let f = c.args.f.now in
    let s = c.args.m.now.stack in
    let at = c.args.at in
    let d = c.declare_all.new.m in
    let l = level c.args.p.now c.args.b.now.level in
    let declared = rw c.in-Well.ensures.stack at c.in-Well-declare_all.ensures.leads in
    let around = rw c.in-Well.ensures.stack at c.in-Well-declare_all.ensures.stack in
    let body = rw around.count at c.block.ensures.leads in
    let frames = frame_around f (cut at s) d.stack (fits_cut f s at c.requires.fits c.requires.above c.requires.within) around
    ∙ ap (λ x. with_locals x (locals f d.stack)) (frame_cut f s at c.requires.fits c.requires.above c.requires.within) in
    record {
      leads = λ k. leads_on (c.in-Well.ensures.meaning _) (leads_on (declared (and_then k (λ locals w. block l c.args.body.now (with_locals (frame f s) locals) w k)))
          (from (ap (λ x. block l c.args.body.now x (world d) k) (sym frames)) (body k)));
      stack = flow_after c.block.result f (cut at s) d.stack c.block.new.m.stack around c.block.ensures.stack;
    }
