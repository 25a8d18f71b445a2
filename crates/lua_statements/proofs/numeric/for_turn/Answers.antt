use Rattle.std.proofs.Common.{sym, ap, rules}
use Rattle.std.proofs.lemmas.Int.{to_z-of_z}
use Rattle.std.specs.Prelude.{FitsSigned}
use mir.Syntax.{w64}
use Rattle.lua_meaning.specs.Run.{and_then}
use Rattle.lua_meaning.specs.Levels.{level}
use Rattle.lua_meaning.specs.Statements.{for_turn, block, with_locals}
use Rattle.lua_machine.specs.Does.{frame, world}
use Rattle.lua_machine.proofs.Leads.{leads_on, from}
use Rattle.lua_machine.proofs.Frames.{frame_around}
use Rattle.lua_statements.proofs.Flows.{flow_after}
use Rattle.lua_statements.proofs.numeric.for_turn.Goals as goal

pub returns-in-Failed : goal.returns-in-Failed
unfolding for_turn
returns-in-Failed g c = record { leads = λ k. c.in-Failed.ensures.meaning _; stack = tt }

pub returns-in-Failed-declare : goal.returns-in-Failed-declare
unfolding for_turn
returns-in-Failed-declare g c =
    let fits : FitsSigned w64 c.args.count.start = search rules in
    let declared = rw (c.in-Well.ensures.stack, to_z-of_z w64 c.args.count.start fits) at c.in-Failed-declare.ensures.leads in
    record { leads = λ k. leads_on (c.in-Well.ensures.meaning _) (declared _); stack = tt }

pub returns-in-Well-declare : goal.returns-in-Well-declare
unfolding for_turn
returns-in-Well-declare g c =
    let f = c.args.f.now in
    let s = c.args.m.now.stack in
    let d = c.declare.new.self in
    let l = level c.args.p.now c.args.b.now.level in
    let fits : FitsSigned w64 c.args.count.start = search rules in
    let declared = rw (c.in-Well.ensures.stack, to_z-of_z w64 c.args.count.start fits) at c.in-Well-declare.ensures.leads in
    let around = rw c.in-Well.ensures.stack at c.in-Well-declare.ensures.stack in
    let body = rw around.count at c.block.ensures.leads in
    record {
      leads = λ k. leads_on (c.in-Well.ensures.meaning _) (leads_on (declared (and_then k (λ locals w. block l c.args.body.now (with_locals (frame f s) locals) w k)))
          (from (ap (λ x. block l c.args.body.now x (world d) k) (sym (frame_around f s d.stack c.requires.fits around))) (body k)));
      stack = flow_after c.block.result f s d.stack c.block.new.m.stack around c.block.ensures.stack;
    }
