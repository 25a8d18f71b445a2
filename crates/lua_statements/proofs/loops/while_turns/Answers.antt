use Rattle.std.proofs.Common.{refl, sym, ap, ◌∙◌, arith, ◌-◌, ◌+◌, ◌≡◌, ◌<◌, length}
use Rattle.lua_meaning.specs.Levels.{level}
use Rattle.lua_meaning.specs.Statements.{while_turns}
use Rattle.lua_machine.specs.Does.{frame, world}
use Rattle.lua_machine.proofs.Leads.{same_run, upto}
use Rattle.lua_machine.proofs.Frames.{around_same, around_then, fits_around}
use Rattle.lua_statements.proofs.Flows.{flow_past, turned_passes}
use Rattle.lua_statements.proofs.LoopTurns.{while_test, while_ends, while_turn, while_on, while_next}
use Rattle.lua_statements.proofs.loops.while_turns.Goals as goal

pub loop-turned-init : goal.loop-turned-init
loop-turned-init g c =
    let m = c.args.m.now in
    let e : m.left ≡ m.left - 0 = omega arith in
    record {
      goes = λ k. same_run refl (ap (λ n. while_turns (level c.args.p.now c.args.b.now.level) n c.args.e.now c.args.body.now (frame c.args.f.now m.stack) (world m) k) e);
      around = around_same c.args.f.now m.stack m.stack c.requires.fits refl;
    }

pub returns-in-No : goal.returns-in-No
returns-in-No g c =
    let inv = c.loop-turned.invariant in
    let m = c.args.m.now in
    let m1 = c.loop-turned.m in
    let f = c.args.f.now in
    let fits = fits_around f m.stack m1.stack c.requires.fits inv.around in
    record {
      leads = λ k. while_ends (level c.args.p.now c.args.b.now.level) c.args.e.now c.args.body.now f m m1 c.test.new.m fits inv.around.count m.left c.loop-turned.turned (omega arith) k _ (inv.goes k) c.in-No.ensures;
      stack = around_then f m.stack m1.stack c.test.new.m.stack inv.around (around_same f m1.stack c.test.new.m.stack fits c.in-No.ensures.stack);
    }

pub returns-in-Failed : goal.returns-in-Failed
returns-in-Failed g c =
    let inv = c.loop-turned.invariant in
    let m = c.args.m.now in
    let m1 = c.loop-turned.m in
    let f = c.args.f.now in
    let fits = fits_around f m.stack m1.stack c.requires.fits inv.around in
    record {
      leads = λ k. while_test (level c.args.p.now c.args.b.now.level) c.args.e.now c.args.body.now f m m1 c.test.new.m fits inv.around.count m.left c.loop-turned.turned (omega arith) k _ (inv.goes k) _ c.in-Failed.ensures;
      stack = tt;
    }

pub returns-in-Breaks : goal.returns-in-Breaks
returns-in-Breaks g c =
    let inv = c.loop-turned.invariant in
    let m = c.args.m.now in
    let m1 = c.loop-turned.m in
    let f = c.args.f.now in
    let fits = fits_around f m.stack m1.stack c.requires.fits inv.around in
    let same = c.in-Yes.ensures.stack in
    record {
      leads = λ k. while_turn (level c.args.p.now c.args.b.now.level) c.args.e.now c.args.body.now f m m1 c.test.new.m fits inv.around.count m.left c.loop-turned.turned (omega arith) k _ (inv.goes k) c.turn.new.m _ c.in-Yes.ensures c.in-Breaks.ensures;
      stack = around_then f m.stack m1.stack c.turn.new.m.stack inv.around (rw same at c.in-Breaks.ensures.stack);
    }

pub returns-in_default : goal.returns-in_default
returns-in_default g c =
    let inv = c.loop-turned.invariant in
    let m = c.args.m.now in
    let m1 = c.loop-turned.m in
    let f = c.args.f.now in
    let l = level c.args.p.now c.args.b.now.level in
    let fits = fits_around f m.stack m1.stack c.requires.fits inv.around in
    record {
      leads = λ k. upto (turned_passes c.turn.result (length m.stack.values) f c.turn.new.m k (while_next l c.args.e.now c.args.body.now (frame f m1.stack) (world m1) k (m.left - (c.loop-turned.turned + 1))) (world c.turn.new.m) c.in_default.not-Goes c.in_default.not-Breaks)
          (while_turn l c.args.e.now c.args.body.now f m m1 c.test.new.m fits inv.around.count m.left c.loop-turned.turned (omega arith) k _ (inv.goes k) c.turn.new.m _ c.in-Yes.ensures c.turn.ensures);
      stack = flow_past c.turn.result f m.stack m1.stack c.test.new.m.stack c.turn.new.m.stack inv.around c.in-Yes.ensures.stack c.turn.ensures.stack;
    }

pub loop-turned-preserved : goal.loop-turned-preserved
loop-turned-preserved g c =
    let inv = c.loop-turned.invariant in
    let m = c.args.m.now in
    let m1 = c.loop-turned.m in
    let f = c.args.f.now in
    let fits = fits_around f m.stack m1.stack c.requires.fits inv.around in
    let around = rw c.in-Yes.ensures.stack at c.in-Goes.ensures.stack in
    record {
      goes = λ k. while_on (level c.args.p.now c.args.b.now.level) c.args.e.now c.args.body.now f m m1 c.test.new.m fits inv.around.count m.left c.loop-turned.turned (omega arith) k _ (inv.goes k) c.turn.new.m c.in-Yes.ensures c.in-Goes.ensures around;
      around = around_then f m.stack m1.stack c.turn.new.m.stack inv.around around;
    }
