use Rattle.std.proofs.Common.{◌≡◌, ◌+◌, true, false, length, drop, nat_le, arith, length-drop}
use Rattle.lua_meaning.specs.Run.{and_then}
use Rattle.lua_meaning.specs.Levels.{level}
use Rattle.lua_machine.specs.Does.{frame, world}
use Rattle.lua_machine.proofs.Leads.{leads_on, from, no_memory}
use Rattle.lua_lists.proofs.ListTurns.{exactly_one, exactly_all, one_next, all_next}
use Rattle.lua_lists.proofs.Stacked.{at_most, too_many, one_filled, one_above_filled, all_filled, all_above_filled}
use Rattle.lua_lists.proofs.counted.finished.Goals as goal

pub returns-in-Failed : goal.returns-in-Failed
returns-in-Failed g c =
    let m = c.args.m.now in
    let n = c.args.n in
    let l = level c.args.p.now c.args.b.now.level in
    let f = frame c.args.f.now m.stack in
    let vs = drop c.args.at m.stack.values in
    let few : nat_le n (length vs + 1) ≡ true = at_most n (length vs + 1) (λ h. omega (arith, h, length-drop c.args.at m.stack.values)) in
    record { leads = λ k. from (exactly_one l f k n vs c.args.last.now (world m) few) (c.in-Failed.ensures.leads (and_then k (one_next l f k n vs))); stack = tt }

pub returns-in-Failed-push : goal.returns-in-Failed-push
returns-in-Failed-push g c =
    let m = c.args.m.now in
    let n = c.args.n in
    let l = level c.args.p.now c.args.b.now.level in
    let f = frame c.args.f.now m.stack in
    let vs = drop c.args.at m.stack.values in
    let few : nat_le n (length vs + 1) ≡ true = at_most n (length vs + 1) (λ h. omega (arith, h, length-drop c.args.at m.stack.values)) in
    record {
      leads = λ k. from (exactly_one l f k n vs c.args.last.now (world m) few)
          (leads_on (c.in-Well.ensures.leads (and_then k (one_next l f k n vs))) (no_memory c.one.new.m c.push.new.self c.in-Failed-push.ensures _ k));
      stack = tt;
    }

pub returns-then-wanted-le1 : goal.returns-then-wanted-le1
returns-then-wanted-le1 g c =
    let m = c.args.m.now in
    let n = c.args.n in
    let at = c.args.at in
    let l = level c.args.p.now c.args.b.now.level in
    let f = frame c.args.f.now m.stack in
    let vs = drop at m.stack.values in
    let few : nat_le n (length vs + 1) ≡ true = at_most n (length vs + 1) (λ h. omega (arith, h, length-drop at m.stack.values)) in
    let m1 = c.one.new.m in
    let same = c.in-Well.ensures.stack in
    let e = c.in-Well-push.ensures in
    record {
      leads = λ k. from (exactly_one l f k n vs c.args.last.now (world m) few)
          (leads_on (c.in-Well.ensures.leads (and_then k (one_next l f k n vs)))
          (one_filled at n m.stack m1 c.push.new.self c.fill.new.m c.requires.within same e c.fill.result c.fill.ensures k));
      stack = one_above_filled at n m.stack m1 c.push.new.self c.fill.new.m c.requires.within same e c.fill.result c.fill.ensures;
    }

pub returns-in-Failed-all_values : goal.returns-in-Failed-all_values
returns-in-Failed-all_values g c =
    let m = c.args.m.now in
    let n = c.args.n in
    let l = level c.args.p.now c.args.b.now.level in
    let f = frame c.args.f.now m.stack in
    let vs = drop c.args.at m.stack.values in
    let more : nat_le n (length vs + 1) ≡ false = too_many n (length vs + 1) (omega (arith, length-drop c.args.at m.stack.values)) in
    record { leads = λ k. from (exactly_all l f k n vs c.args.last.now (world m) more) (c.in-Failed-all_values.ensures.leads (and_then k (all_next l f k n vs))); stack = tt }

pub returns : goal.returns
returns g c =
    let m = c.args.m.now in
    let n = c.args.n in
    let at = c.args.at in
    let l = level c.args.p.now c.args.b.now.level in
    let f = frame c.args.f.now m.stack in
    let vs = drop at m.stack.values in
    let more : nat_le n (length vs + 1) ≡ false = too_many n (length vs + 1) (omega (arith, length-drop at m.stack.values)) in
    let m1 = c.all_values.new.m in
    let a = c.in-Well-all_values.ensures.stack in
    record {
      leads = λ k. from (exactly_all l f k n vs c.args.last.now (world m) more)
          (leads_on (c.in-Well-all_values.ensures.leads (and_then k (all_next l f k n vs)))
          (all_filled at n m.stack m1 c.fill-2.new.m c.requires.within a c.fill-2.result c.fill-2.ensures k));
      stack = all_above_filled at n m.stack m1 c.fill-2.new.m c.requires.within a c.fill-2.result c.fill-2.ensures;
    }
