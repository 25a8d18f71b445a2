use Rattle.std.proofs.Common.{refl, sym, ap, ◌∙◌, arith, drop, Some, Ok, ◌+◌}
use Rattle.lua_meaning.specs.Run.{here}
use Rattle.lua_meaning.specs.Level.{Goes}
use Rattle.lua_meaning.specs.Levels.{level}
use Rattle.lua_meaning.specs.Statements.{sequence, with_locals}
use Rattle.lua_machine.specs.Does.{frame, locals, world}
use Rattle.lua_machine.proofs.Leads.{leads_on, from, upto}
use Rattle.lua_machine.proofs.Frames.{fits_around, frame_around, around_same, around_then, over_after}
use Rattle.lua_statements.proofs.BlockTurns.{sequence_at, sequence_end, jump_alone}
use Rattle.lua_statements.proofs.blocks.sequence.Goals as goal

pub loop-s-init : goal.loop-s-init
loop-s-init g c = record { goes = λ jump k. here; around = around_same c.args.f.now c.args.m.now.stack c.args.m.now.stack c.requires.fits refl }

pub step-requires-clause-fits : goal.step-requires-clause-fits
step-requires-clause-fits g c = fits_around c.args.f.now c.args.m.now.stack c.loop-s.m.stack c.requires.fits c.loop-s.invariant.around

pub loop-s-preserved : goal.loop-s-preserved
loop-s-preserved g c =
    let inv = c.loop-s.invariant in
    let l = level c.args.p.now c.args.b.now.level in
    let f = c.args.f.now in
    let s1 = c.loop-s.m.stack in
    let s2 = c.step.new.m.stack in
    let fits = fits_around f c.args.m.now.stack s1 c.requires.fits inv.around in
    record {
      goes = λ jump k. leads_on (inv.goes jump k) (from (sequence_at l jump k c.args.ss.now c.loop-s.s-index c.s-item.result (frame f s1) (world c.loop-s.m) (omega arith) c.s-item.is)
          (upto (ap (λ x. Some (sequence l jump (drop (c.loop-s.s-index + 1) c.args.ss.now) x (world c.step.new.m) k)) (sym (frame_around f s1 s2 fits c.in-Goes.ensures.stack))) (c.in-Goes.ensures.leads _)));
      around = around_then f c.args.m.now.stack s1 s2 inv.around c.in-Goes.ensures.stack;
    }

pub returns-in-Breaks : goal.returns-in-Breaks
returns-in-Breaks g c =
    let inv = c.loop-s.invariant in
    let l = level c.args.p.now c.args.b.now.level in
    let f = c.args.f.now in
    let s1 = c.loop-s.m.stack in
    record {
      leads = λ jump k. leads_on (inv.goes jump k) (from (sequence_at l jump k c.args.ss.now c.loop-s.s-index c.s-item.result (frame f s1) (world c.loop-s.m) (omega arith) c.s-item.is) (c.in-Breaks.ensures.leads _));
      stack = around_then f c.args.m.now.stack s1 c.step.new.m.stack inv.around c.in-Breaks.ensures.stack;
    }

pub returns-in-Jumps : goal.returns-in-Jumps
returns-in-Jumps g c =
    let inv = c.loop-s.invariant in
    let l = level c.args.p.now c.args.b.now.level in
    let f = c.args.f.now in
    let s1 = c.loop-s.m.stack in
    let m2 = c.step.new.m in
    record {
      leads = λ jump k. leads_on (inv.goes jump k) (from (sequence_at l jump k c.args.ss.now c.loop-s.s-index c.s-item.result (frame f s1) (world c.loop-s.m) (omega arith) c.s-item.is)
          (upto (ap Some (jump_alone k (λ locals w. sequence l jump (drop (c.loop-s.s-index + 1) c.args.ss.now) (with_locals (frame f s1) locals) w k) (λ locals w. k (Ok (Goes locals)) w) jump m2.leaves m2.statement (locals f m2.stack) (world m2))) (c.in-Jumps.ensures.leads _)));
      stack = around_then f c.args.m.now.stack s1 m2.stack inv.around c.in-Jumps.ensures.stack;
    }

pub returns-in-ReturnsOne : goal.returns-in-ReturnsOne
returns-in-ReturnsOne g c =
    let inv = c.loop-s.invariant in
    let l = level c.args.p.now c.args.b.now.level in
    let f = c.args.f.now in
    let s1 = c.loop-s.m.stack in
    record {
      leads = λ jump k. leads_on (inv.goes jump k) (from (sequence_at l jump k c.args.ss.now c.loop-s.s-index c.s-item.result (frame f s1) (world c.loop-s.m) (omega arith) c.s-item.is) (c.in-ReturnsOne.ensures.leads _));
      stack = around_then f c.args.m.now.stack s1 c.step.new.m.stack inv.around c.in-ReturnsOne.ensures.stack;
    }

pub returns-in-ReturnsMany : goal.returns-in-ReturnsMany
returns-in-ReturnsMany g c =
    let inv = c.loop-s.invariant in
    let l = level c.args.p.now c.args.b.now.level in
    let f = c.args.f.now in
    let s1 = c.loop-s.m.stack in
    let step = rw inv.around.count at c.in-ReturnsMany.ensures.leads in
    record {
      leads = λ jump k. leads_on (inv.goes jump k) (from (sequence_at l jump k c.args.ss.now c.loop-s.s-index c.s-item.result (frame f s1) (world c.loop-s.m) (omega arith) c.s-item.is) (step _));
      stack = over_after f c.args.m.now.stack s1 c.step.new.m.stack inv.around c.in-ReturnsMany.ensures.stack;
    }

pub returns-in-Fails : goal.returns-in-Fails
returns-in-Fails g c =
    let inv = c.loop-s.invariant in
    let l = level c.args.p.now c.args.b.now.level in
    let f = c.args.f.now in
    let s1 = c.loop-s.m.stack in
    record {
      leads = λ jump k. leads_on (inv.goes jump k) (from (sequence_at l jump k c.args.ss.now c.loop-s.s-index c.s-item.result (frame f s1) (world c.loop-s.m) (omega arith) c.s-item.is) (c.in-Fails.ensures.leads _));
      stack = tt;
    }

pub returns : goal.returns
returns g c =
    let inv = c.loop-s.invariant in
    let l = level c.args.p.now c.args.b.now.level in
    let f = c.args.f.now in
    record {
      leads = λ jump k. leads_on (inv.goes jump k) (from (sequence_end l jump k c.args.ss.now c.loop-s.s-index (frame f c.loop-s.m.stack) (world c.loop-s.m) (omega arith)) here);
      stack = inv.around;
    }
