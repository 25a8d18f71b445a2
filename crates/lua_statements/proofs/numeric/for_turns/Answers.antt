use Rattle.std.proofs.Common.{refl, sym, ap, ◌∙◌, arith, Some, Ok, ◌-◌, ◌+◌, ◌≡◌, ◌<◌, length}
use Rattle.lua_meaning.specs.Level.{Goes}
use Rattle.lua_meaning.specs.Levels.{level}
use Rattle.lua_meaning.specs.Statements.{for_turns}
use Rattle.lua_machine.specs.Does.{frame, locals, world}
use Rattle.lua_machine.proofs.Leads.{same_run, upto}
use Rattle.lua_machine.proofs.Frames.{around_same, around_then, fits_around, frame_around}
use Rattle.lua_statements.proofs.Flows.{flow_after, turned_passes}
use Rattle.lua_statements.proofs.NumericTurns.{for_turn_leads, for_next, for_last, for_more}
use Rattle.lua_statements.proofs.numeric.for_turns.Goals as goal

pub loop-turned-init : goal.loop-turned-init
loop-turned-init g c =
    let m = c.args.m.now in
    let n = c.args.count in
    let e : m.left ≡ m.left - 0 = omega arith in
    record {
      goes = λ k. same_run refl (ap (λ a. for_turns c.args.p.now (level c.args.p.now c.args.b.now.level) a n.more n.start n.step c.args.r.now c.args.body.now (frame c.args.f.now m.stack) (world m) k) e);
      around = around_same c.args.f.now m.stack m.stack c.requires.fits refl;
    }

pub returns-in-Breaks : goal.returns-in-Breaks
returns-in-Breaks g c =
    let inv = c.loop-turned.invariant in
    let m = c.args.m.now in
    let m1 = c.loop-turned.m in
    let f = c.args.f.now in
    record {
      leads = λ k. for_turn_leads c.args.p.now (level c.args.p.now c.args.b.now.level) c.loop-turned.now.start c.loop-turned.now.step c.args.r.now c.args.body.now f m m1 c.for_turn.new.m inv.around.count m.left c.loop-turned.turned c.loop-turned.now.more (omega arith) k _ (inv.goes k) _ c.in-Breaks.ensures;
      stack = around_then f m.stack m1.stack c.for_turn.new.m.stack inv.around c.in-Breaks.ensures.stack;
    }

pub returns-in_default : goal.returns-in_default
returns-in_default g c =
    let inv = c.loop-turned.invariant in
    let m = c.args.m.now in
    let m1 = c.loop-turned.m in
    let m2 = c.for_turn.new.m in
    let f = c.args.f.now in
    let p = c.args.p.now in
    let l = level p c.args.b.now.level in
    record {
      leads = λ k. upto (turned_passes c.for_turn.result (length m.stack.values) f m2 k (for_next p l c.loop-turned.now.start c.loop-turned.now.step c.args.r.now c.args.body.now (frame f m1.stack) k (m.left - (c.loop-turned.turned + 1)) c.loop-turned.now.more) (world m2) c.in_default.not-Goes c.in_default.not-Breaks)
          (for_turn_leads p l c.loop-turned.now.start c.loop-turned.now.step c.args.r.now c.args.body.now f m m1 m2 inv.around.count m.left c.loop-turned.turned c.loop-turned.now.more (omega arith) k _ (inv.goes k) _ c.for_turn.ensures);
      stack = flow_after c.for_turn.result f m.stack m1.stack m2.stack inv.around c.for_turn.ensures.stack;
    }

pub returns-then-now-eq0 : goal.returns-then-now-eq0
returns-then-now-eq0 g c =
    let inv = c.loop-turned.invariant in
    let m = c.args.m.now in
    let m1 = c.loop-turned.m in
    let m2 = c.for_turn.new.m in
    let f = c.args.f.now in
    let p = c.args.p.now in
    let l = level p c.args.b.now.level in
    record {
      leads = λ k. upto (ap Some (for_last p l c.loop-turned.now.start c.loop-turned.now.step c.args.r.now c.args.body.now (frame f m1.stack) k (m.left - (c.loop-turned.turned + 1)) c.loop-turned.now.more (locals f m2.stack) (world m2) c.if-now-eq0.true))
          (for_turn_leads p l c.loop-turned.now.start c.loop-turned.now.step c.args.r.now c.args.body.now f m m1 m2 inv.around.count m.left c.loop-turned.turned c.loop-turned.now.more (omega arith) k _ (inv.goes k) _ c.in-Goes.ensures);
      stack = around_then f m.stack m1.stack m2.stack inv.around c.in-Goes.ensures.stack;
    }

pub loop-turned-preserved : goal.loop-turned-preserved
loop-turned-preserved g c =
    let inv = c.loop-turned.invariant in
    let m = c.args.m.now in
    let m1 = c.loop-turned.m in
    let m2 = c.for_turn.new.m in
    let f = c.args.f.now in
    let p = c.args.p.now in
    let l = level p c.args.b.now.level in
    let now = c.loop-turned.now in
    let n = m.left - (c.loop-turned.turned + 1) in
    let fits = fits_around f m.stack m1.stack c.requires.fits inv.around in
    record {
      goes = λ k. upto (ap Some (for_more p l now.start now.step c.args.r.now c.args.body.now (frame f m1.stack) k n now.more (locals f m2.stack) (world m2) c.if-now-eq0.false
          ∙ ap (λ x. for_turns p l n x.more x.start x.step c.args.r.now c.args.body.now (record (frame f m1.stack) { locals = locals f m2.stack }) (world m2) k) (sym c.rest-now.ensures)
          ∙ ap (λ x. for_turns p l n c.rest-now.result.more c.rest-now.result.start c.rest-now.result.step c.args.r.now c.args.body.now x (world m2) k) (sym (frame_around f m1.stack m2.stack fits c.in-Goes.ensures.stack))))
          (for_turn_leads p l now.start now.step c.args.r.now c.args.body.now f m m1 m2 inv.around.count m.left c.loop-turned.turned now.more (omega arith) k _ (inv.goes k) _ c.in-Goes.ensures);
      around = around_then f m.stack m1.stack m2.stack inv.around c.in-Goes.ensures.stack;
    }
