use Rattle.lua_meaning.specs.Run.{lost}
use Rattle.lua_meaning.specs.Level.{no_site}
use Rattle.lua_meaning.specs.Levels.{level}
use Rattle.lua_machine.specs.Does.{frame}
use Rattle.lua_statements.proofs.CallTurns.{ready_is, call_leads, call_one, call_many, one_leads, one_above}
use Rattle.lua_statements.proofs.generic.next_values.Goals as goal

pub returns-in-Failed : goal.returns-in-Failed
returns-in-Failed g c = record { leads = λ k. rw c.in-Failed.ensures lost; stack = tt }

pub returns-in-Failed-push : goal.returns-in-Failed-push
returns-in-Failed-push g c = record { leads = λ k. rw (c.in-Failed-push.ensures, c.in-Well.ensures) lost; stack = tt }

pub returns-in-One : goal.returns-in-One
returns-in-One g c =
    let m = c.args.m.now in
    let go = c.args.go in
    let e = ready_is m c.push.new.self c.push-2.new.self go c.args.state c.args.control c.in-Well.ensures c.in-Well-push.ensures in
    let site = no_site (frame c.args.f.now m.stack) in
    let l = level c.args.p.now c.args.b.now.level in
    let m1 = record c.push-2.new.self { value = go } in
    let m2 = c.invoke.new.m in
    let same = call_one go c.args.state c.args.control m m1 m2 c.len-at.result c.len-at.ensures e c.in-One.ensures.stack in
    record {
      leads = λ k. one_leads m m2 c.push-in-One.new.self same c.push-in-One.result c.push-in-One.ensures _ k (call_leads l go c.args.state c.args.control site m m1 m2 c.len-at.result c.len-at.ensures e _ c.in-One.ensures k);
      stack = one_above m m2 c.push-in-One.new.self same c.push-in-One.result c.push-in-One.ensures;
    }

pub returns-in-Many : goal.returns-in-Many
returns-in-Many g c =
    let m = c.args.m.now in
    let go = c.args.go in
    let e = ready_is m c.push.new.self c.push-2.new.self go c.args.state c.args.control c.in-Well.ensures c.in-Well-push.ensures in
    let site = no_site (frame c.args.f.now m.stack) in
    let l = level c.args.p.now c.args.b.now.level in
    let m1 = record c.push-2.new.self { value = go } in
    let m2 = c.invoke.new.m in
    record {
      leads = λ k. call_leads l go c.args.state c.args.control site m m1 m2 c.len-at.result c.len-at.ensures e _ c.in-Many.ensures k;
      stack = call_many go c.args.state c.args.control m m1 m2 c.len-at.result c.len-at.ensures e c.in-Many.ensures.stack;
    }

pub returns-in-Failed-invoke : goal.returns-in-Failed-invoke
returns-in-Failed-invoke g c =
    let m = c.args.m.now in
    let go = c.args.go in
    let e = ready_is m c.push.new.self c.push-2.new.self go c.args.state c.args.control c.in-Well.ensures c.in-Well-push.ensures in
    let site = no_site (frame c.args.f.now m.stack) in
    let l = level c.args.p.now c.args.b.now.level in
    let m1 = record c.push-2.new.self { value = go } in
    record { leads = λ k. call_leads l go c.args.state c.args.control site m m1 c.invoke.new.m c.len-at.result c.len-at.ensures e _ c.in-Failed-invoke.ensures k; stack = tt }
