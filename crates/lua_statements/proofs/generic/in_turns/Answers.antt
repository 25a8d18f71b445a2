use Rattle.std.proofs.Common.{refl, sym, ap, ◌∙◌, arith, Some, Ok, ◌-◌, ◌+◌, ◌≡◌, ◌≤◌, ◌<◌, length, drop, true, false}
use Rattle.object_store.specs.Value.{is_nil}
use Rattle.lua_meaning.specs.Levels.{level}
use Rattle.lua_meaning.specs.Names.{first}
use Rattle.lua_meaning.specs.Statements.{in_turns}
use Rattle.lua_machine.specs.Piled.{cut}
use Rattle.lua_machine.specs.Does.{frame, locals, world}
use Rattle.lua_machine.proofs.Leads.{same_run, upto}
use Rattle.lua_machine.proofs.Frames.{around_same, around_then, fits_around, fits_above, frame_around}
use Rattle.lua_statements.proofs.Flows.{flow_past, turned_passes}
use Rattle.lua_statements.proofs.GenericTurns.{in_call, in_last, in_turn_leads, in_next, cut_at}
use Rattle.lua_statements.proofs.generic.in_turns.Goals as goal

pub loop-turned-init : goal.loop-turned-init
loop-turned-init g c =
    let m = c.args.m.now in
    let e : m.left ≡ m.left - 0 = omega arith in
    record {
      goes = λ k. same_run refl (ap (λ a. in_turns c.args.p.now (level c.args.p.now c.args.b.now.level) a c.args.go c.args.state c.args.control c.args.rs.now c.args.body.now (frame c.args.f.now m.stack) (world m) k) e);
      around = around_same c.args.f.now m.stack m.stack c.requires.fits refl;
    }

pub next_values-requires-clause-fits : goal.next_values-requires-clause-fits
next_values-requires-clause-fits g c = fits_around c.args.f.now c.args.m.now.stack c.loop-turned.m.stack c.requires.fits c.loop-turned.invariant.around

pub returns-in-Failed : goal.returns-in-Failed
returns-in-Failed g c =
    let inv = c.loop-turned.invariant in
    let m = c.args.m.now in
    let m1 = c.loop-turned.m in
    let f = c.args.f.now in
    let fits = fits_around f m.stack m1.stack c.requires.fits inv.around in
    let is : c.len-at.result ≡ length m1.stack.values = c.len-at.ensures ∙ sym inv.around.count in
    record {
      leads = λ k. in_call c.args.p.now (level c.args.p.now c.args.b.now.level) c.args.go c.args.state c.loop-turned.before c.args.rs.now c.args.body.now f m m1 c.next_values.new.m fits c.len-at.result is inv.around.count m.left c.loop-turned.turned (omega arith) k _ (inv.goes k) _ c.in-Failed.ensures;
      stack = tt;
    }

pub returns-then-is_nil : goal.returns-then-is_nil
returns-then-is_nil g c =
    let inv = c.loop-turned.invariant in
    let p = c.args.p.now in
    let l = level p c.args.b.now.level in
    let m = c.args.m.now in
    let m1 = c.loop-turned.m in
    let m2 = c.next_values.new.m in
    let f = c.args.f.now in
    let at = c.len-at.result in
    let fits = fits_around f m.stack m1.stack c.requires.fits inv.around in
    let is : at ≡ length m1.stack.values = c.len-at.ensures ∙ sym inv.around.count in
    let nil : is_nil (first (drop at m2.stack.values)) ≡ true = ap is_nil (sym c.value_at-before.ensures) ∙ sym c.is_nil.ensures ∙ c.if-is_nil.true in
    let n : c.loop-turned.turned < m.left = omega arith in
    let same = cut_at m1.stack m2.stack at is c.in-Well.ensures.stack in
    record {
      leads = λ k. rw c.cut.ensures (in_last p l c.args.go c.args.state c.loop-turned.before c.args.rs.now c.args.body.now f m m1 m2 fits at is inv.around.count m.left c.loop-turned.turned n k _ (inv.goes k) c.in-Well.ensures nil);
      stack = rw (c.cut.ensures, same) inv.around;
    }

pub returns-in-Breaks : goal.returns-in-Breaks
returns-in-Breaks g c =
    let inv = c.loop-turned.invariant in
    let p = c.args.p.now in
    let l = level p c.args.b.now.level in
    let m = c.args.m.now in
    let m1 = c.loop-turned.m in
    let m2 = c.next_values.new.m in
    let m3 = c.in_turn.new.m in
    let f = c.args.f.now in
    let at = c.len-at.result in
    let fits = fits_around f m.stack m1.stack c.requires.fits inv.around in
    let is : at ≡ length m1.stack.values = c.len-at.ensures ∙ sym inv.around.count in
    let nil : is_nil (first (drop at m2.stack.values)) ≡ false = ap is_nil (sym c.value_at-before.ensures) ∙ sym c.is_nil.ensures ∙ c.if-is_nil.false in
    let n : c.loop-turned.turned < m.left = omega arith in
    let same = cut_at m1.stack m2.stack at is c.in-Well.ensures.stack in
    record {
      leads = λ k. in_turn_leads p l c.args.go c.args.state c.loop-turned.before c.args.rs.now c.args.body.now f m m1 m2 fits at is inv.around.count m.left c.loop-turned.turned n k _ (inv.goes k) c.in-Well.ensures m3 _ nil c.in-Breaks.ensures;
      stack = around_then f m.stack m1.stack m3.stack inv.around (rw same at c.in-Breaks.ensures.stack);
    }

pub returns-in_default : goal.returns-in_default
returns-in_default g c =
    let inv = c.loop-turned.invariant in
    let p = c.args.p.now in
    let l = level p c.args.b.now.level in
    let m = c.args.m.now in
    let m1 = c.loop-turned.m in
    let m2 = c.next_values.new.m in
    let m3 = c.in_turn.new.m in
    let f = c.args.f.now in
    let at = c.len-at.result in
    let fits = fits_around f m.stack m1.stack c.requires.fits inv.around in
    let is : at ≡ length m1.stack.values = c.len-at.ensures ∙ sym inv.around.count in
    let nil : is_nil (first (drop at m2.stack.values)) ≡ false = ap is_nil (sym c.value_at-before.ensures) ∙ sym c.is_nil.ensures ∙ c.if-is_nil.false in
    let n : c.loop-turned.turned < m.left = omega arith in
    let same = cut_at m1.stack m2.stack at is c.in-Well.ensures.stack in
    record {
      leads = λ k. upto (turned_passes c.in_turn.result (length m.stack.values) f m3 k (in_next p l c.args.go c.args.state c.args.rs.now c.args.body.now (frame f m1.stack) k (m.left - (c.loop-turned.turned + 1)) (drop at m2.stack.values)) (world m3) c.in_default.not-Goes c.in_default.not-Breaks)
          (in_turn_leads p l c.args.go c.args.state c.loop-turned.before c.args.rs.now c.args.body.now f m m1 m2 fits at is inv.around.count m.left c.loop-turned.turned n k _ (inv.goes k) c.in-Well.ensures m3 _ nil c.in_turn.ensures);
      stack = flow_past c.in_turn.result f m.stack m1.stack (cut at m2.stack) m3.stack inv.around same c.in_turn.ensures.stack;
    }

pub loop-turned-preserved : goal.loop-turned-preserved
loop-turned-preserved g c =
    let inv = c.loop-turned.invariant in
    let p = c.args.p.now in
    let l = level p c.args.b.now.level in
    let m = c.args.m.now in
    let m1 = c.loop-turned.m in
    let m2 = c.next_values.new.m in
    let m3 = c.in_turn.new.m in
    let f = c.args.f.now in
    let at = c.len-at.result in
    let turns = m.left - (c.loop-turned.turned + 1) in
    let fits = fits_around f m.stack m1.stack c.requires.fits inv.around in
    let is : at ≡ length m1.stack.values = c.len-at.ensures ∙ sym inv.around.count in
    let nil : is_nil (first (drop at m2.stack.values)) ≡ false = ap is_nil (sym c.value_at-before.ensures) ∙ sym c.is_nil.ensures ∙ c.if-is_nil.false in
    let n : c.loop-turned.turned < m.left = omega arith in
    let same = cut_at m1.stack m2.stack at is c.in-Well.ensures.stack in
    let around = rw same at c.in-Goes.ensures.stack in
    record {
      goes = λ k. upto (ap (λ v. Some (in_turns p l turns c.args.go c.args.state v c.args.rs.now c.args.body.now (record (frame f m1.stack) { locals = locals f m3.stack }) (world m3) k)) (sym c.value_at-before.ensures)
          ∙ ap (λ x. Some (in_turns p l turns c.args.go c.args.state c.value_at-before.result c.args.rs.now c.args.body.now x (world m3) k)) (sym (frame_around f m1.stack m3.stack fits around)))
          (in_turn_leads p l c.args.go c.args.state c.loop-turned.before c.args.rs.now c.args.body.now f m m1 m2 fits at is inv.around.count m.left c.loop-turned.turned n k _ (inv.goes k) c.in-Well.ensures m3 _ nil c.in-Goes.ensures);
      around = around_then f m.stack m1.stack m3.stack inv.around around;
    }
