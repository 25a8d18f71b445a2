use Rattle.std.proofs.Common.{refl, sym, ap, ◌∙◌, arith, Some, ◌+◌, ◌-◌, ◌≡◌, ◌<◌, ◌≤◌}
use Rattle.lua_meaning.specs.Run.{here}
use Rattle.lua_meaning.specs.Levels.{level}
use Rattle.lua_meaning.specs.Statements.{jumped}
use Rattle.lua_machine.specs.Does.{frame, locals, world}
use Rattle.lua_machine.proofs.Leads.{leads_on, from, upto, same_run}
use Rattle.lua_machine.proofs.Frames.{around_same, around_then, over_after, fits_around}
use Rattle.lua_statements.proofs.BlockTurns.{jumped_end}
use Rattle.lua_statements.proofs.JumpTurns.{jump_out, jump_here, jump_turn}
use Rattle.lua_statements.proofs.blocks.after_jump.Goals as goal

pub returns-then-m-gt0 : goal.returns-then-m-gt0
returns-then-m-gt0 g c =
    let m = c.args.m.now in
    let f = c.args.f.now in
    record {
      leads = λ k. same_run refl (jump_out k (λ n locals w. jumped (level c.args.p.now c.args.b.now.level) w.left c.args.ss.now (frame f m.stack) k n locals w) m.leaves m.statement (locals f m.stack) (world m) (omega arith));
      stack = around_same f m.stack m.stack c.requires.fits refl;
    }

pub loop-turn-init : goal.loop-turn-init
loop-turn-init g c =
    let m = c.args.m.now in
    let f = c.args.f.now in
    let l = level c.args.p.now c.args.b.now.level in
    let e : m.left ≡ m.left - 0 = omega arith in
    record {
      goes = λ k. same_run refl (jump_here k (λ n locals w. jumped l w.left c.args.ss.now (frame f m.stack) k n locals w) m.leaves m.statement (locals f m.stack) (world m) (omega arith)
          ∙ ap (λ n. jumped l n c.args.ss.now (frame f m.stack) k m.statement (locals f m.stack) (world m)) e);
      around = around_same f m.stack m.stack c.requires.fits refl;
    }

pub sequence-requires-clause-fits : goal.sequence-requires-clause-fits
sequence-requires-clause-fits g c = fits_around c.args.f.now c.args.m.now.stack c.loop-turn.m.stack c.requires.fits c.loop-turn.invariant.around

pub returns-in-Goes : goal.returns-in-Goes
returns-in-Goes g c =
    let inv = c.loop-turn.invariant in
    let m = c.args.m.now in
    let turn = jump_turn (level c.args.p.now c.args.b.now.level) c.args.ss.now c.past.result.now c.args.f.now m c.loop-turn.m c.sequence.new.m c.requires.fits inv.around m.left c.loop-turn.turn (omega arith) c.past.ensures _ c.in-Goes.ensures in
    record { leads = λ k. turn _ k (inv.goes k); stack = around_then c.args.f.now m.stack c.loop-turn.m.stack c.sequence.new.m.stack inv.around c.in-Goes.ensures.stack }

pub returns-in-Breaks : goal.returns-in-Breaks
returns-in-Breaks g c =
    let inv = c.loop-turn.invariant in
    let m = c.args.m.now in
    let turn = jump_turn (level c.args.p.now c.args.b.now.level) c.args.ss.now c.past.result.now c.args.f.now m c.loop-turn.m c.sequence.new.m c.requires.fits inv.around m.left c.loop-turn.turn (omega arith) c.past.ensures _ c.in-Breaks.ensures in
    record { leads = λ k. turn _ k (inv.goes k); stack = around_then c.args.f.now m.stack c.loop-turn.m.stack c.sequence.new.m.stack inv.around c.in-Breaks.ensures.stack }

pub returns-then-m-gt0-2 : goal.returns-then-m-gt0-2
returns-then-m-gt0-2 g c =
    let inv = c.loop-turn.invariant in
    let m = c.args.m.now in
    let f = c.args.f.now in
    let l = level c.args.p.now c.args.b.now.level in
    let m2 = c.sequence.new.m in
    let turn = jump_turn l c.args.ss.now c.past.result.now f m c.loop-turn.m m2 c.requires.fits inv.around m.left c.loop-turn.turn (omega arith) c.past.ensures _ c.in-Jumps.ensures in
    record {
      leads = λ k. upto (ap Some (jump_out k (jumped l (m.left - (c.loop-turn.turn + 1)) c.args.ss.now (frame f m.stack) k) m2.leaves m2.statement (locals f m2.stack) (world m2) (omega arith))) (turn _ k (inv.goes k));
      stack = around_then f m.stack c.loop-turn.m.stack m2.stack inv.around c.in-Jumps.ensures.stack;
    }

pub returns-in-ReturnsOne : goal.returns-in-ReturnsOne
returns-in-ReturnsOne g c =
    let inv = c.loop-turn.invariant in
    let m = c.args.m.now in
    let turn = jump_turn (level c.args.p.now c.args.b.now.level) c.args.ss.now c.past.result.now c.args.f.now m c.loop-turn.m c.sequence.new.m c.requires.fits inv.around m.left c.loop-turn.turn (omega arith) c.past.ensures _ c.in-ReturnsOne.ensures in
    record { leads = λ k. turn _ k (inv.goes k); stack = around_then c.args.f.now m.stack c.loop-turn.m.stack c.sequence.new.m.stack inv.around c.in-ReturnsOne.ensures.stack }

pub returns-in-ReturnsMany : goal.returns-in-ReturnsMany
returns-in-ReturnsMany g c =
    let inv = c.loop-turn.invariant in
    let m = c.args.m.now in
    let turn = jump_turn (level c.args.p.now c.args.b.now.level) c.args.ss.now c.past.result.now c.args.f.now m c.loop-turn.m c.sequence.new.m c.requires.fits inv.around m.left c.loop-turn.turn (omega arith) c.past.ensures _ c.in-ReturnsMany.ensures in
    record { leads = λ k. turn _ k (inv.goes k); stack = over_after c.args.f.now m.stack c.loop-turn.m.stack c.sequence.new.m.stack inv.around c.in-ReturnsMany.ensures.stack }

pub returns-in-Fails : goal.returns-in-Fails
returns-in-Fails g c =
    let inv = c.loop-turn.invariant in
    let m = c.args.m.now in
    let turn = jump_turn (level c.args.p.now c.args.b.now.level) c.args.ss.now c.past.result.now c.args.f.now m c.loop-turn.m c.sequence.new.m c.requires.fits inv.around m.left c.loop-turn.turn (omega arith) c.past.ensures _ c.in-Fails.ensures in
    record { leads = λ k. turn _ k (inv.goes k); stack = tt }

pub loop-turn-preserved : goal.loop-turn-preserved
loop-turn-preserved g c =
    let inv = c.loop-turn.invariant in
    let m = c.args.m.now in
    let f = c.args.f.now in
    let l = level c.args.p.now c.args.b.now.level in
    let m2 = c.sequence.new.m in
    let turn = jump_turn l c.args.ss.now c.past.result.now f m c.loop-turn.m m2 c.requires.fits inv.around m.left c.loop-turn.turn (omega arith) c.past.ensures _ c.in-Jumps.ensures in
    record {
      goes = λ k. upto (ap Some (jump_here k (jumped l (m.left - (c.loop-turn.turn + 1)) c.args.ss.now (frame f m.stack) k) m2.leaves m2.statement (locals f m2.stack) (world m2) (omega arith))) (turn _ k (inv.goes k));
      around = around_then f m.stack c.loop-turn.m.stack m2.stack inv.around c.in-Jumps.ensures.stack;
    }
