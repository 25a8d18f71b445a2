use Rattle.std.proofs.Common.{refl, sym, ap, ◌∙◌, arith, drop, Some, Ok, ◌+◌, ◌≤◌, length}
use Rattle.lua_meaning.specs.Run.{here, and_then}
use Rattle.lua_meaning.specs.Names.{first}
use Rattle.lua_meaning.specs.Statements.{declare, declare_all, refs_of}
use Rattle.lua_machine.specs.Does.{frame, world}
use Rattle.lua_machine.proofs.Leads.{leads_on, from, upto}
use Rattle.lua_machine.proofs.Frames.{fits_around, frame_around, around_same, around_then}
use Rattle.lua_statements.proofs.LocalTurns.{declare_at, declare_end, declare_next, same_from, around_cut, frame_cut}
use Rattle.lua_commands.proofs.LocalTurns.{refs_length, refs_at}
use Rattle.lua_commands.proofs.declarations.declare_all.Goals as goal

pub loop-i-init : goal.loop-i-init
loop-i-init g c = record { goes = λ k. here; around = around_same c.args.f.now c.args.m.now.stack c.args.m.now.stack c.requires.fits refl; values = refl }

pub returns-in-Failed : goal.returns-in-Failed
returns-in-Failed g c =
    let inv = c.loop-i.invariant in
    let rs = refs_of c.args.ls.now in
    let x = c.index-ls-i.result in
    let m1 = c.loop-i.m in
    let f = frame c.args.f.now m1.stack in
    let vs = drop c.args.at c.args.m.now.stack.values in
    let i = c.loop-i.i in
    let v = ap (λ s. first (drop i s)) (sym inv.values) ∙ sym c.value_at-m.ensures in
    record {
      leads = λ k. leads_on (inv.goes k) (from (declare_at c.args.p.now rs vs i f (world m1) k x.0 (omega (arith, refs_length c.args.ls.now)) (refs_at c.args.ls.now i x c.index-ls-i.is)
          ∙ ap (λ y. declare c.args.p.now f x.0 y (world m1) (and_then k (declare_next c.args.p.now rs vs i f (world m1) k))) v)
          (c.in-Failed.ensures.locals.leads (and_then k (declare_next c.args.p.now rs vs i f (world m1) k))));
      stack = tt;
    }

pub loop-i-preserved : goal.loop-i-preserved
loop-i-preserved g c =
    let inv = c.loop-i.invariant in
    let rs = refs_of c.args.ls.now in
    let x = c.index-ls-i.result in
    let w = c.args.f.now in
    let s = c.args.m.now.stack in
    let m1 = c.loop-i.m in
    let m2 = c.declare.new.m in
    let f = frame w m1.stack in
    let vs = drop c.args.at s.values in
    let i = c.loop-i.i in
    let v = ap (λ s. first (drop i s)) (sym inv.values) ∙ sym c.value_at-m.ensures in
    let fits = fits_around w s m1.stack c.requires.fits inv.around in
    let around = c.in-Well.ensures.locals.stack in
    record {
      goes = λ k. leads_on (inv.goes k) (from (declare_at c.args.p.now rs vs i f (world m1) k x.0 (omega (arith, refs_length c.args.ls.now)) (refs_at c.args.ls.now i x c.index-ls-i.is)
          ∙ ap (λ y. declare c.args.p.now f x.0 y (world m1) (and_then k (declare_next c.args.p.now rs vs i f (world m1) k))) v)
          (upto (ap (λ x. Some (declare_all c.args.p.now (drop (i + 1) rs) (drop (i + 1) vs) x (world m2) k)) (sym (frame_around w m1.stack m2.stack fits around)))
          (c.in-Well.ensures.locals.leads (and_then k (declare_next c.args.p.now rs vs i f (world m1) k)))));
      around = around_then w s m1.stack m2.stack inv.around around;
      values = same_from (w.base + w.size) c.args.at m1.stack.values m2.stack.values c.requires.above c.in-Well.ensures.past ∙ inv.values;
    }

pub returns : goal.returns
returns g c =
    let inv = c.loop-i.invariant in
    let rs = refs_of c.args.ls.now in
    let w = c.args.f.now in
    let s = c.args.m.now.stack in
    let m1 = c.loop-i.m in
    let vs = drop c.args.at s.values in
    let within : c.args.at ≤ length m1.stack.values = omega (arith, inv.around.count, c.requires.within) in
    let frames = ap (λ x. x.locals) (frame_cut w m1.stack c.args.at (fits_around w s m1.stack c.requires.fits inv.around) c.requires.above within) in
    record {
      leads = λ k. leads_on (inv.goes k) (from (declare_end c.args.p.now rs vs c.loop-i.i (frame w m1.stack) (world m1) k (omega (arith, refs_length c.args.ls.now)) ∙ ap (λ x. k (Ok x) (world m1)) (sym frames))
          (rw c.cut.ensures here));
      stack = rw c.cut.ensures (around_cut w s m1.stack c.args.at (omega (arith, c.requires.above)) c.requires.within inv.around);
    }
