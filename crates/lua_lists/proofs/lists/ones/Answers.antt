use Rattle.std.proofs.Common.{refl, sym, ap, arith, Some, ◌≤◌, length, drop, ◌+◌}
use Rattle.lua_meaning.specs.Run.{here, and_then}
use Rattle.lua_meaning.specs.Levels.{level}
use Rattle.lua_machine.specs.Does.{frame, world}
use Rattle.lua_machine.proofs.Leads.{leads_on, from, upto, same_run, no_memory}
use Rattle.lua_machine.proofs.Frames.{frame_above, fits_above}
use Rattle.lua_lists.specs.Ones.{ones}
use Rattle.lua_lists.proofs.ListTurns.{ones_at, ones_end, ones_next}
use Rattle.lua_lists.proofs.Stacked.{above_same, above_then, push_from, push_above}
use Rattle.lua_lists.proofs.lists.ones.Goals as goal

pub loop-e-init : goal.loop-e-init
loop-e-init g c = record { goes = λ k. here; above = above_same (length c.args.m.now.stack.values) c.args.m.now.stack (omega arith) }

pub one-requires-clause-fits : goal.one-requires-clause-fits
one-requires-clause-fits g c = fits_above c.args.f.now c.args.m.now.stack c.loop-e.m.stack c.requires.fits c.loop-e.invariant.above

pub returns-in-Failed-clause-leads : goal.returns-in-Failed-clause-leads
returns-in-Failed-clause-leads g c =
    let inv = c.loop-e.invariant in
    let l = level c.args.p.now c.args.b.now.level in
    let f = frame c.args.f.now c.args.m.now.stack in
    let m1 = c.loop-e.m in
    let vs = drop c.args.at m1.stack.values in
    let i = c.loop-e.e-index in
    let one = rw (frame_above c.args.f.now c.args.m.now.stack m1.stack c.requires.fits inv.above) at c.in-Failed.ensures.leads in
    λ k. leads_on (inv.goes k) (from (ones_at l f (world m1) k vs c.args.es.now i c.e-item.result (omega arith) c.e-item.is) (one (and_then k (ones_next l f (world m1) k vs c.args.es.now i))))

pub returns-in-Failed-push-clause-leads : goal.returns-in-Failed-push-clause-leads
returns-in-Failed-push-clause-leads g c =
    let inv = c.loop-e.invariant in
    let l = level c.args.p.now c.args.b.now.level in
    let f = frame c.args.f.now c.args.m.now.stack in
    let m1 = c.loop-e.m in
    let vs = drop c.args.at m1.stack.values in
    let i = c.loop-e.e-index in
    let one = rw (frame_above c.args.f.now c.args.m.now.stack m1.stack c.requires.fits inv.above) at c.in-Well.ensures.leads in
    λ k. leads_on (inv.goes k) (from (ones_at l f (world m1) k vs c.args.es.now i c.e-item.result (omega arith) c.e-item.is)
    (leads_on (one (and_then k (ones_next l f (world m1) k vs c.args.es.now i))) (no_memory c.one.new.m c.push.new.self c.in-Failed-push.ensures _ k)))

pub loop-e-preserved : goal.loop-e-preserved
loop-e-preserved g c =
    let inv = c.loop-e.invariant in
    let l = level c.args.p.now c.args.b.now.level in
    let s = c.args.m.now.stack in
    let f = frame c.args.f.now s in
    let m1 = c.loop-e.m in
    let m2 = c.one.new.m in
    let vs = drop c.args.at m1.stack.values in
    let i = c.loop-e.e-index in
    let v = m2.value in
    let h : c.args.at ≤ length m1.stack.values = omega (arith, inv.above.within) in
    let one = rw (frame_above c.args.f.now s m1.stack c.requires.fits inv.above) at c.in-Well.ensures.leads in
    let same = c.in-Well.ensures.stack in
    let pushed = c.in-Well-push.ensures in
    record {
      goes = λ k. leads_on (inv.goes k) (from (ones_at l f (world m1) k vs c.args.es.now i c.e-item.result (omega arith) c.e-item.is)
          (leads_on (one (and_then k (ones_next l f (world m1) k vs c.args.es.now i)))
          (rw pushed (same_run refl (ap (λ x. ones l x (drop (i + 1) c.args.es.now) f (world m2) k) (rw same (sym (push_from c.args.at m1.stack v h))))))));
      above = rw (pushed, same) (above_then (length s.values) s m1.stack _ (omega arith) inv.above (push_above 0 m1.stack v (omega arith)));
    }

pub returns-clause-leads : goal.returns-clause-leads
returns-clause-leads g c =
    let inv = c.loop-e.invariant in
    let l = level c.args.p.now c.args.b.now.level in
    let f = frame c.args.f.now c.args.m.now.stack in
    let m1 = c.loop-e.m in
    λ k. upto (ap (λ x. Some x) (ones_end l f (world m1) k (drop c.args.at m1.stack.values) c.args.es.now c.loop-e.e-index (omega arith))) (inv.goes k)
