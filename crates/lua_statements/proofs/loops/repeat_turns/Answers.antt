use Rattle.std.proofs.Common.{refl, sym, ap, ◌∙◌, arith, Some, Ok, ◌-◌, ◌+◌, ◌≡◌, ◌<◌, length}
use Rattle.lua_meaning.specs.Level.{Goes}
use Rattle.lua_meaning.specs.Levels.{level}
use Rattle.lua_meaning.specs.Statements.{repeat_turns}
use Rattle.lua_machine.specs.Does.{frame, locals, world}
use Rattle.lua_machine.proofs.Leads.{same_run, upto}
use Rattle.lua_machine.proofs.Frames.{around_same, around_then, fits_around, frame_around}
use Rattle.lua_statements.proofs.Flows.{flow_after, turned_passes}
use Rattle.lua_statements.proofs.LoopTurns.{repeat_turn, repeat_test, repeat_next}
use Rattle.lua_statements.proofs.loops.repeat_turns.Goals as goal

pub loop-turned-init : goal.loop-turned-init
loop-turned-init g c =
    let m = c.args.m.now in
    let e : m.left ≡ m.left - 0 = omega arith in
    record {
      goes = λ k. same_run refl (ap (λ n. repeat_turns (level c.args.p.now c.args.b.now.level) n c.args.e.now c.args.body.now (frame c.args.f.now m.stack) (world m) k) e);
      around = around_same c.args.f.now m.stack m.stack c.requires.fits refl;
    }

pub returns-in-Breaks : goal.returns-in-Breaks
returns-in-Breaks g c =
    let inv = c.loop-turned.invariant in
    let m = c.args.m.now in
    let m1 = c.loop-turned.m in
    let f = c.args.f.now in
    let fits = fits_around f m.stack m1.stack c.requires.fits inv.around in
    record {
      leads = λ k. repeat_turn (level c.args.p.now c.args.b.now.level) c.args.e.now c.args.body.now f m m1 c.turn.new.m fits inv.around.count m.left c.loop-turned.turned (omega arith) k _ (inv.goes k) _ c.in-Breaks.ensures;
      stack = around_then f m.stack m1.stack c.turn.new.m.stack inv.around c.in-Breaks.ensures.stack;
    }

pub returns-in_default : goal.returns-in_default
returns-in_default g c =
    let inv = c.loop-turned.invariant in
    let m = c.args.m.now in
    let m1 = c.loop-turned.m in
    let f = c.args.f.now in
    let l = level c.args.p.now c.args.b.now.level in
    let fits = fits_around f m.stack m1.stack c.requires.fits inv.around in
    record {
      leads = λ k. upto (turned_passes c.turn.result (length m.stack.values) f c.turn.new.m k (repeat_next l c.args.e.now c.args.body.now (frame f m1.stack) (world m1) k (m.left - (c.loop-turned.turned + 1))) (world c.turn.new.m) c.in_default.not-Goes c.in_default.not-Breaks)
          (repeat_turn l c.args.e.now c.args.body.now f m m1 c.turn.new.m fits inv.around.count m.left c.loop-turned.turned (omega arith) k _ (inv.goes k) _ c.turn.ensures);
      stack = flow_after c.turn.result f m.stack m1.stack c.turn.new.m.stack inv.around c.turn.ensures.stack;
    }

pub returns-in-Yes : goal.returns-in-Yes
returns-in-Yes g c =
    let inv = c.loop-turned.invariant in
    let m = c.args.m.now in
    let m1 = c.loop-turned.m in
    let m2 = c.turn.new.m in
    let m3 = c.test.new.m in
    let f = c.args.f.now in
    let fits = fits_around f m.stack m1.stack c.requires.fits inv.around in
    let fits2 = fits_around f m1.stack m2.stack fits c.in-Goes.ensures.stack in
    record {
      leads = λ k. upto (ap (λ s. Some (k (Ok (Goes (locals f s))) (world m3))) (sym c.in-Yes.ensures.stack))
          (repeat_test (level c.args.p.now c.args.b.now.level) c.args.e.now c.args.body.now f m m1 m2 fits inv.around.count m.left c.loop-turned.turned (omega arith) k _ (inv.goes k) m3 _ c.in-Goes.ensures c.in-Yes.ensures);
      stack = around_then f m.stack m1.stack m3.stack inv.around (around_then f m1.stack m2.stack m3.stack c.in-Goes.ensures.stack (around_same f m2.stack m3.stack fits2 c.in-Yes.ensures.stack));
    }

pub returns-in-Failed : goal.returns-in-Failed
returns-in-Failed g c =
    let inv = c.loop-turned.invariant in
    let m = c.args.m.now in
    let m1 = c.loop-turned.m in
    let f = c.args.f.now in
    let fits = fits_around f m.stack m1.stack c.requires.fits inv.around in
    record {
      leads = λ k. repeat_test (level c.args.p.now c.args.b.now.level) c.args.e.now c.args.body.now f m m1 c.turn.new.m fits inv.around.count m.left c.loop-turned.turned (omega arith) k _ (inv.goes k) c.test.new.m _ c.in-Goes.ensures c.in-Failed.ensures;
      stack = tt;
    }

pub loop-turned-preserved : goal.loop-turned-preserved
loop-turned-preserved g c =
    let inv = c.loop-turned.invariant in
    let m = c.args.m.now in
    let m1 = c.loop-turned.m in
    let m2 = c.turn.new.m in
    let m3 = c.test.new.m in
    let f = c.args.f.now in
    let l = level c.args.p.now c.args.b.now.level in
    let fits = fits_around f m.stack m1.stack c.requires.fits inv.around in
    let fits2 = fits_around f m1.stack m2.stack fits c.in-Goes.ensures.stack in
    record {
      goes = λ k. upto (ap (λ x. Some (repeat_turns l (m.left - (c.loop-turned.turned + 1)) c.args.e.now c.args.body.now x (world m3) k)) (sym (frame_around f m1.stack m2.stack fits c.in-Goes.ensures.stack) ∙ ap (frame f) (sym c.in-No.ensures.stack)))
          (repeat_test l c.args.e.now c.args.body.now f m m1 m2 fits inv.around.count m.left c.loop-turned.turned (omega arith) k _ (inv.goes k) m3 _ c.in-Goes.ensures c.in-No.ensures);
      around = around_then f m.stack m1.stack m3.stack inv.around (around_then f m1.stack m2.stack m3.stack c.in-Goes.ensures.stack (around_same f m2.stack m3.stack fits2 c.in-No.ensures.stack));
    }
