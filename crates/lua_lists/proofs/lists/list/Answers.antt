use Rattle.std.proofs.Common.{ap, ◌∙◌, arith, ◌≤◌, length, drop}
use Rattle.lua_meaning.specs.Run.{here, and_then}
use Rattle.lua_meaning.specs.Levels.{level}
use Rattle.lua_meaning.specs.Expressions.{list}
use Rattle.lua_machine.specs.Does.{frame, world}
use Rattle.lua_machine.proofs.Leads.{leads_on, from, upto}
use Rattle.lua_machine.proofs.Frames.{frame_above, fits_above}
use Rattle.lua_lists.proofs.ListTurns.{list_none, list_split, list_last}
use Rattle.lua_lists.proofs.Stacked.{above_same, well_above, joined, joined_next}
use Rattle.lua_lists.proofs.lists.list.Goals as goal

pub returns-in-None : goal.returns-in-None
returns-in-None g c =
    let m = c.args.m.now in
    let l = level c.args.p.now c.args.b.now.level in
    record {
      leads = λ k. from (list_none l (frame c.args.f.now m.stack) k c.args.es.now (drop c.args.at m.stack.values) (world m) c.in-None.ensures.cases) here;
      stack = above_same c.args.at m.stack c.requires.within;
    }

pub all_values-requires-clause-fits : goal.all_values-requires-clause-fits
all_values-requires-clause-fits g c = fits_above c.args.f.now c.args.m.now.stack c.ones.new.m.stack c.requires.fits c.in-Well.ensures.stack

pub returns-in-Failed : goal.returns-in-Failed
returns-in-Failed g c =
    let m = c.args.m.now in
    let l = level c.args.p.now c.args.b.now.level in
    let f = frame c.args.f.now m.stack in
    let vs = drop c.args.at m.stack.values in
    let last = c.in-Some.last.now in
    let front = c.in-Some.front.now in
    record {
      leads = λ k. from (ap (λ x. list l vs x f (world m) k) c.in-Some.ensures.cases.0 ∙ list_split l f k front vs last (world m)) (c.in-Failed.ensures.leads (and_then k (list_last l f k last)));
      stack = tt;
    }

pub returns-in-Well : goal.returns-in-Well
returns-in-Well g c =
    let m = c.args.m.now in
    let m1 = c.ones.new.m in
    let l = level c.args.p.now c.args.b.now.level in
    let f = frame c.args.f.now m.stack in
    let at = c.args.at in
    let vs = drop at m.stack.values in
    let last = c.in-Some.last.now in
    let front = c.in-Some.front.now in
    let above = c.in-Well.ensures.stack in
    let h : at ≤ length m1.stack.values = omega (arith, above.within) in
    let all = rw (frame_above c.args.f.now m.stack m1.stack c.requires.fits above) at c.all_values.ensures.leads in
    record {
      leads = λ k. from (ap (λ x. list l vs x f (world m) k) c.in-Some.ensures.cases.0 ∙ list_split l f k front vs last (world m))
          (leads_on (c.in-Well.ensures.leads (and_then k (list_last l f k last)))
          (upto (joined at m1.stack c.all_values.new.m k h c.all_values.result c.all_values.ensures.stack) (all (and_then k (joined_next at m1.stack c.all_values.new.m k h)))));
      stack = well_above c.all_values.result at m.stack m1.stack c.all_values.new.m.stack c.requires.within above c.all_values.ensures.stack;
    }
