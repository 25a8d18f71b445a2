use Rattle.std.proofs.Common.{sym, ap, ◌∙◌, arith, Ok, [], length}
use Rattle.std.proofs.Math.Seq.{drop-length}
use Rattle.lua_meaning.specs.Run.{and_then}
use Rattle.lua_meaning.specs.Levels.{level}
use Rattle.lua_meaning.specs.Names.{filled}
use Rattle.lua_meaning.specs.Expressions.{exactly}
use Rattle.lua_machine.specs.Does.{frame, world}
use Rattle.lua_machine.proofs.Leads.{leads_on, from}
use Rattle.lua_machine.proofs.Frames.{frame_above, fits_above}
use Rattle.lua_lists.proofs.ListTurns.{exactly_none, exactly_split, exactly_last}
use Rattle.lua_lists.proofs.Stacked.{well_past}
use Rattle.lua_lists.proofs.counted.exactly.Goals as goal

pub returns-in-None : goal.returns-in-None
returns-in-None g c =
    let m = c.args.m.now in
    let s = m.stack in
    let l = level c.args.p.now c.args.b.now.level in
    let f = frame c.args.f.now s in
    let fill = rw c.len-at.ensures at c.fill.ensures in
    record {
      leads = λ k. from (exactly_none l f k c.args.n c.args.es.now [] (world m) c.in-None.ensures.cases ∙ ap (λ vs. k (Ok (filled c.args.n vs)) (world m)) (sym (drop-length s.values))) (fill.leads k);
      stack = fill.stack;
    }

pub finished-requires-clause-fits : goal.finished-requires-clause-fits
finished-requires-clause-fits g c = fits_above c.args.f.now c.args.m.now.stack c.ones.new.m.stack c.requires.fits c.in-Well.ensures.stack

pub returns-in-Failed : goal.returns-in-Failed
returns-in-Failed g c =
    let m = c.args.m.now in
    let l = level c.args.p.now c.args.b.now.level in
    let f = frame c.args.f.now m.stack in
    let last = c.in-Some.last.now in
    let front = c.in-Some.front.now in
    let ones = rw (c.len-at.ensures, drop-length m.stack.values) at c.in-Failed.ensures.leads in
    record {
      leads = λ k. from (ap (λ x. exactly l c.args.n [] x f (world m) k) c.in-Some.ensures.cases.0 ∙ exactly_split l f k c.args.n front [] last (world m)) (ones (and_then k (exactly_last l f k c.args.n last)));
      stack = tt;
    }

pub returns-in-Well : goal.returns-in-Well
returns-in-Well g c =
    let m = c.args.m.now in
    let m1 = c.ones.new.m in
    let l = level c.args.p.now c.args.b.now.level in
    let f = frame c.args.f.now m.stack in
    let last = c.in-Some.last.now in
    let front = c.in-Some.front.now in
    let above = c.in-Well.ensures.stack in
    let ones = rw (c.len-at.ensures, drop-length m.stack.values) at c.in-Well.ensures.leads in
    let finished = rw (frame_above c.args.f.now m.stack m1.stack c.requires.fits above, c.len-at.ensures) at c.finished.ensures in
    record {
      leads = λ k. from (ap (λ x. exactly l c.args.n [] x f (world m) k) c.in-Some.ensures.cases.0 ∙ exactly_split l f k c.args.n front [] last (world m))
          (leads_on (ones (and_then k (exactly_last l f k c.args.n last))) (finished.leads k));
      stack = well_past c.finished.result (length m.stack.values) m.stack m1.stack c.finished.new.m.stack (omega arith) above finished.stack;
    }
