use Rattle.std.proofs.Common.{ap, ◌∙◌, arith, Some, drop, ◌+◌, ◌*◌, ◌≡◌, ◌<◌, length}
use Rattle.lua_meaning.specs.Run.{here}
use Rattle.lua_meaning.specs.Levels.{level}
use Rattle.lua_meaning.specs.Statements.{targets}
use Rattle.lua_machine.specs.Does.{frame, world}
use Rattle.lua_machine.proofs.Leads.{leads_on, upto}
use Rattle.lua_machine.proofs.Frames.{fits_above}
use Rattle.lua_commands.proofs.TargetTurns.{target_turn, targets_now, targets_whole, above_then, above_self}
use Rattle.lua_commands.proofs.targets.push_targets.Goals as goal

pub loop-e-init : goal.loop-e-init
loop-e-init g c = record { goes = λ k. here; above = above_self c.args.m.now.stack; count = omega arith }

pub push_target-requires-clause-fits : goal.push_target-requires-clause-fits
push_target-requires-clause-fits g c = fits_above c.args.f.now c.args.m.now.stack c.loop-e.m.stack c.requires.fits c.loop-e.invariant.above

pub returns-in-Failed : goal.returns-in-Failed
returns-in-Failed g c =
    let inv = c.loop-e.invariant in
    let i : c.loop-e.e-index < length c.args.es.now = omega arith in
    record {
      leads = λ k. target_turn c.args.p.now (level c.args.p.now c.args.b.now.level) c.args.f.now c.args.es.now c.args.m.now c.loop-e.m c.push_target.new.m c.requires.fits inv.above c.loop-e.e-index c.e-item.result i c.e-item.is _ c.in-Failed.ensures _ k (inv.goes k);
      stack = tt;
      count = tt;
    }

pub loop-e-preserved : goal.loop-e-preserved
loop-e-preserved g c =
    let inv = c.loop-e.invariant in
    let p = c.args.p.now in
    let l = level p c.args.b.now.level in
    let m = c.args.m.now in
    let m1 = c.loop-e.m in
    let m2 = c.push_target.new.m in
    let es = c.args.es.now in
    let n = c.loop-e.e-index in
    let i : n < length es = omega arith in
    let t = c.in-Well.ensures in
    let now = targets_now es m.stack m1.stack m2.stack inv.above t.stack n c.e-item.result i c.e-item.is inv.count in
    record {
      goes = λ k. upto (ap (λ ts. Some (targets p l ts (drop (n + 1) es) (frame c.args.f.now m.stack) (world m2) k)) now)
          (target_turn p l c.args.f.now es m m1 m2 c.requires.fits inv.above n c.e-item.result i c.e-item.is _ t _ k (inv.goes k));
      above = above_then (length m.stack.values) m.stack m1.stack m2.stack inv.above t.stack;
      count = t.count ∙ (omega (arith, inv.count));
    }

pub returns : goal.returns
returns g c =
    let inv = c.loop-e.invariant in
    let es = c.args.es.now in
    let i : c.loop-e.e-index ≡ length es = omega arith in
    record {
      leads = λ k. leads_on (inv.goes k) (targets_whole c.args.p.now (level c.args.p.now c.args.b.now.level) (frame c.args.f.now c.args.m.now.stack) es c.args.m.now c.loop-e.m c.loop-e.e-index i k);
      stack = inv.above;
      count = inv.count ∙ ap (λ n. length c.args.m.now.stack.values + 2 * n) i;
    }
