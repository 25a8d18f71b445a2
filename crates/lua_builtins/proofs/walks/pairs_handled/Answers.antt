use Rattle.std.proofs.Common.{sym, Ok}
use Rattle.lua_meaning.specs.Run.{lost, and_then}
use Rattle.lua_meaning.specs.Names.{filled}
use Rattle.lua_meaning.specs.Levels.{level}
use Rattle.lua_meaning.specs.Library.{inner}
use Rattle.lua_machine.specs.Piled.{cut}
use Rattle.lua_machine.proofs.Leads.{leads_on}
use Rattle.lua_machine.proofs.Windows.{cut_length}
use Rattle.lua_builtins.proofs.Stacks.{got_cut, got_above, above_cut}
use Rattle.lua_builtins.proofs.HandlerCalls.{ready_is, call_leads, call_one, call_many}
use Rattle.lua_builtins.proofs.walks.pairs_handled.Goals as goal

pub returns-in-Failed : goal.returns-in-Failed
returns-in-Failed g c = record { leads = λ k. rw c.in-Failed.ensures lost; stack = tt }

pub returns-in-One : goal.returns-in-One
returns-in-One g c =
    let a = c.args in
    let m = record a.m.now { stack = cut a.at a.m.now.stack } in
    let l = level a.p.now a.b.now.level in
    let m1 = record c.push.new.self { value = a.function } in
    let m2 = c.invoke.new.m in
    let pushed = rw c.cut.ensures at c.in-Well.ensures in
    let is = sym (cut_length a.at a.m.now.stack.values c.requires.within) in
    let e = ready_is m c.push.new.self a.function a.value pushed in
    let called = rw c.inner.ensures at c.in-One.ensures in
    let same = call_one a.function a.value m m1 m2 a.at is e called.stack in
    let given = rw same at c.give_three.ensures.stack in
    record {
      leads = λ k. leads_on (call_leads l a.function a.value (inner a.p.now l a.site) m m1 m2 a.at is e _ called (and_then k (λ vs w. k (Ok (filled 3 vs)) w))) (c.give_three.ensures.leads k);
      stack = got_cut a.at a.m.now.stack c.give_three.new.m.stack c.give_three.result given;
    }

pub returns-in-Many : goal.returns-in-Many
returns-in-Many g c =
    let a = c.args in
    let m = record a.m.now { stack = cut a.at a.m.now.stack } in
    let l = level a.p.now a.b.now.level in
    let m1 = record c.push.new.self { value = a.function } in
    let m2 = c.invoke.new.m in
    let pushed = rw c.cut.ensures at c.in-Well.ensures in
    let is = sym (cut_length a.at a.m.now.stack.values c.requires.within) in
    let e = ready_is m c.push.new.self a.function a.value pushed in
    let called = rw c.inner.ensures at c.in-Many.ensures in
    let above = above_cut a.at a.m.now.stack m2.stack (call_many a.function a.value m m1 m2 a.at is e called.stack) in
    record {
      leads = λ k. leads_on (call_leads l a.function a.value (inner a.p.now l a.site) m m1 m2 a.at is e _ called (and_then k (λ vs w. k (Ok (filled 3 vs)) w))) (c.give_first_three.ensures.leads k);
      stack = got_above c.give_first_three.result a.at a.m.now.stack m2.stack c.give_first_three.new.m.stack above c.give_first_three.ensures.stack;
    }

pub returns-in-Failed-invoke : goal.returns-in-Failed-invoke
returns-in-Failed-invoke g c =
    let a = c.args in
    let m = record a.m.now { stack = cut a.at a.m.now.stack } in
    let l = level a.p.now a.b.now.level in
    let m1 = record c.push.new.self { value = a.function } in
    let m2 = c.invoke.new.m in
    let pushed = rw c.cut.ensures at c.in-Well.ensures in
    let is = sym (cut_length a.at a.m.now.stack.values c.requires.within) in
    let e = ready_is m c.push.new.self a.function a.value pushed in
    let called = rw c.inner.ensures at c.in-Failed-invoke.ensures in
    record {
      leads = λ k. call_leads l a.function a.value (inner a.p.now l a.site) m m1 m2 a.at is e _ called (and_then k (λ vs w. k (Ok (filled 3 vs)) w));
      stack = tt;
    }
