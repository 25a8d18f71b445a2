use Rattle.lua_meaning.specs.Run.{lost, and_then}
use Rattle.lua_meaning.specs.Names.{first}
use Rattle.lua_meaning.specs.Levels.{level}
use Rattle.lua_meaning.specs.Library.{inner, text_of}
use Rattle.lua_machine.proofs.Leads.{leads_on}
use Rattle.lua_builtins.proofs.HandlerCalls.{ready_is, well_on, call_leads, call_one, call_cut}
use Rattle.lua_builtins.proofs.texts.add_by_handler.Goals as goal

pub returns-in-Failed : goal.returns-in-Failed
returns-in-Failed g c = record { leads = λ k. rw c.in-Failed.ensures lost; text = tt; stack = tt }

pub returns-in-One : goal.returns-in-One
returns-in-One g c =
    let a = c.args in
    let m = a.m.now in
    let l = level a.p.now a.b.now.level in
    let m1 = record c.push.new.self { value = a.function } in
    let m2 = c.invoke.new.m in
    let e = ready_is m c.push.new.self a.function a.value c.in-Well.ensures in
    let called = rw c.inner.ensures at c.in-One.ensures in
    let same = call_one a.function a.value m m1 m2 c.len-at.result c.len-at.ensures e called.stack in
    let text = c.add_string.ensures l in
    record {
      leads = λ k. leads_on (call_leads l a.function a.value (inner a.p.now l a.site) m m1 m2 c.len-at.result c.len-at.ensures e _ called (and_then k (λ vs w. text_of a.p.now l a.site (first vs) w k))) (text.leads k);
      text = text.text;
      stack = well_on c.add_string.result m.stack m2.stack c.add_string.new.m.stack text.stack same;
    }

pub returns-in-Many : goal.returns-in-Many
returns-in-Many g c =
    let a = c.args in
    let m = a.m.now in
    let l = level a.p.now a.b.now.level in
    let m1 = record c.push.new.self { value = a.function } in
    let m2 = c.invoke.new.m in
    let e = ready_is m c.push.new.self a.function a.value c.in-Well.ensures in
    let called = rw c.inner.ensures at c.in-Many.ensures in
    let same = call_cut a.function a.value m m1 m2 c.len-at.result c.len-at.ensures e called.stack in
    let text = rw c.take_first.ensures at (c.add_string-in-Many.ensures l) in
    record {
      leads = λ k. leads_on (call_leads l a.function a.value (inner a.p.now l a.site) m m1 m2 c.len-at.result c.len-at.ensures e _ called (and_then k (λ vs w. text_of a.p.now l a.site (first vs) w k))) (text.leads k);
      text = text.text;
      stack = well_on c.add_string-in-Many.result m.stack _ c.add_string-in-Many.new.m.stack text.stack same;
    }

pub returns-in-Failed-invoke : goal.returns-in-Failed-invoke
returns-in-Failed-invoke g c =
    let a = c.args in
    let m = a.m.now in
    let l = level a.p.now a.b.now.level in
    let m1 = record c.push.new.self { value = a.function } in
    let m2 = c.invoke.new.m in
    let e = ready_is m c.push.new.self a.function a.value c.in-Well.ensures in
    let called = rw c.inner.ensures at c.in-Failed-invoke.ensures in
    record {
      leads = λ k. call_leads l a.function a.value (inner a.p.now l a.site) m m1 m2 c.len-at.result c.len-at.ensures e _ called (and_then k (λ vs w. text_of a.p.now l a.site (first vs) w k));
      text = tt;
      stack = tt;
    }
