use Rattle.std.proofs.Common.{refl, sym, ap, ◌∙◌, arith, drop, Some, Ok, ◌+◌, ◌*◌, ◌≤◌, ◌<◌, ◌≡◌, length}
use Rattle.lua_meaning.specs.Run.{here, and_then}
use Rattle.lua_meaning.specs.Levels.{level}
use Rattle.lua_meaning.specs.Names.{first}
use Rattle.lua_meaning.specs.Statements.{stores}
use Rattle.lua_machine.specs.Does.{frame, world}
use Rattle.lua_machine.proofs.Leads.{leads_on, from, upto}
use Rattle.lua_machine.proofs.Frames.{fits_around, frame_around, around_same, around_then}
use Rattle.lua_statements.proofs.LocalTurns.{same_from, around_cut, frame_cut}
use Rattle.lua_commands.specs.Targets.{targets_of}
use Rattle.lua_commands.proofs.StoreTurns.{store_at, store_end, store_next, store_same}
use Rattle.lua_commands.proofs.assignments.store_all.Goals as goal

pub loop-i-init : goal.loop-i-init
loop-i-init g c = record { goes = λ k. here; around = around_same c.args.f.now c.args.m.now.stack c.args.m.now.stack c.requires.fits refl; values = refl }

pub returns-in-Failed : goal.returns-in-Failed
returns-in-Failed g c =
    let inv = c.loop-i.invariant in
    let p = c.args.p.now in
    let l = level p c.args.b.now.level in
    let w = c.args.f.now in
    let s = c.args.m.now.stack in
    let ts = c.args.ts.now in
    let at = c.args.at in
    let m1 = c.loop-i.m in
    let m2 = c.store.new.m in
    let f = frame w m1.stack in
    let vs = drop at s.values in
    let us = drop c.args.from s.values in
    let i = c.loop-i.i in
    let t = c.index-ts-i.result in
    let h : i < length ts = omega arith in
    let at_from : at ≤ c.args.from = omega (arith, c.requires.targets) in
    let object : first (drop (2 * i) vs) ≡ c.value_at-object.result = ap (λ x. first (drop (2 * i) x)) (sym inv.values) ∙ sym c.value_at-object.ensures in
    let key : first (drop (2 * i + 1) vs) ≡ c.value_at-key.result = ap (λ x. first (drop (2 * i + 1) x)) (sym inv.values) ∙ sym c.value_at-key.ensures in
    let value : first (drop i us) ≡ c.value_at-m.result = ap (λ x. first (drop i x)) (sym (same_from at c.args.from s.values m1.stack.values at_from inv.values)) ∙ sym c.value_at-m.ensures in
    record {
      leads = λ k. leads_on (inv.goes k) (from (store_at p l ts vs us i f (world m1) k t h c.index-ts-i.is ∙ store_same p l f t _ _ _ _ _ _ (world m1) (and_then k (store_next p l ts vs us i f (world m1) k)) object key value)
          (c.in-Failed.ensures.locals.leads (and_then k (store_next p l ts vs us i f (world m1) k))));
      stack = tt;
    }

pub loop-i-preserved : goal.loop-i-preserved
loop-i-preserved g c =
    let inv = c.loop-i.invariant in
    let p = c.args.p.now in
    let l = level p c.args.b.now.level in
    let w = c.args.f.now in
    let s = c.args.m.now.stack in
    let ts = c.args.ts.now in
    let at = c.args.at in
    let m1 = c.loop-i.m in
    let m2 = c.store.new.m in
    let f = frame w m1.stack in
    let vs = drop at s.values in
    let us = drop c.args.from s.values in
    let i = c.loop-i.i in
    let t = c.index-ts-i.result in
    let h : i < length ts = omega arith in
    let at_from : at ≤ c.args.from = omega (arith, c.requires.targets) in
    let object : first (drop (2 * i) vs) ≡ c.value_at-object.result = ap (λ x. first (drop (2 * i) x)) (sym inv.values) ∙ sym c.value_at-object.ensures in
    let key : first (drop (2 * i + 1) vs) ≡ c.value_at-key.result = ap (λ x. first (drop (2 * i + 1) x)) (sym inv.values) ∙ sym c.value_at-key.ensures in
    let value : first (drop i us) ≡ c.value_at-m.result = ap (λ x. first (drop i x)) (sym (same_from at c.args.from s.values m1.stack.values at_from inv.values)) ∙ sym c.value_at-m.ensures in
    let fits = fits_around w s m1.stack c.requires.fits inv.around in
    let around = c.in-Well.ensures.locals.stack in
    record {
      goes = λ k. leads_on (inv.goes k) (from (store_at p l ts vs us i f (world m1) k t h c.index-ts-i.is ∙ store_same p l f t _ _ _ _ _ _ (world m1) (and_then k (store_next p l ts vs us i f (world m1) k)) object key value)
          (upto (ap (λ x. Some (stores p l (drop (i + 1) (targets_of ts vs)) (drop (i + 1) us) x (world m2) k)) (sym (frame_around w m1.stack m2.stack fits around)))
          (c.in-Well.ensures.locals.leads (and_then k (store_next p l ts vs us i f (world m1) k)))));
      around = around_then w s m1.stack m2.stack inv.around around;
      values = same_from (w.base + w.size) at m1.stack.values m2.stack.values c.requires.above c.in-Well.ensures.past ∙ inv.values;
    }

pub returns : goal.returns
returns g c =
    let inv = c.loop-i.invariant in
    let p = c.args.p.now in
    let l = level p c.args.b.now.level in
    let w = c.args.f.now in
    let s = c.args.m.now.stack in
    let ts = c.args.ts.now in
    let at = c.args.at in
    let m1 = c.loop-i.m in
    let vs = drop at s.values in
    let us = drop c.args.from s.values in
    let h : length ts ≤ c.loop-i.i = omega arith in
    let low : at ≤ length s.values = omega (arith, c.requires.targets, c.requires.within) in
    let within : at ≤ length m1.stack.values = omega (arith, inv.around.count, low) in
    let frames = ap (λ x. x.locals) (frame_cut w m1.stack at (fits_around w s m1.stack c.requires.fits inv.around) c.requires.above within) in
    record {
      leads = λ k. leads_on (inv.goes k) (from (store_end p l ts vs us c.loop-i.i (frame w m1.stack) (world m1) k h ∙ ap (λ x. k (Ok x) (world m1)) (sym frames))
          (rw c.cut.ensures here));
      stack = rw c.cut.ensures (around_cut w s m1.stack at (omega (arith, c.requires.above)) low inv.around);
    }
