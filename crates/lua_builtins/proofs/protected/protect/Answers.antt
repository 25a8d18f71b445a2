use Rattle.lua_meaning.specs.Levels.{level}
use Rattle.lua_meaning.specs.Library.{caught}
use Rattle.lua_machine.proofs.Leads.{leads_on}
use Rattle.lua_builtins.proofs.Stacks.{got_cut}
use Rattle.lua_builtins.proofs.Catching.{handle_next}
use Rattle.lua_builtins.proofs.protected.protect.Goals as goal

pub returns-in-One : goal.returns-in-One
returns-in-One g c =
    let a = c.args in
    let m = a.m.now in
    let p = a.p.now in
    let l = level p a.b.now.level in
    let ran = rw (c.inner.ensures, c.in-One.is) at c.apart-got.ensures.leads in
    let rest = c.give_two.ensures in
    let stack = rw c.apart-got.ensures.stack at rest.stack in
    record {
      leads = λ k. leads_on (ran (caught p l a.site (handle_next p l a.site a.handler k) k)) (rest.leads k);
      stack = got_cut a.at m.stack c.give_two.new.m.stack c.give_two.result stack;
    }

pub returns-in-Many : goal.returns-in-Many
returns-in-Many g c =
    let a = c.args in
    let m = a.m.now in
    let p = a.p.now in
    let l = level p a.b.now.level in
    let ran = rw (c.inner.ensures, c.in-Many.is) at c.apart-got.ensures.leads in
    let rest = c.give_all.ensures l in
    let stack = rw c.apart-got.ensures.stack at rest.stack in
    record {
      leads = λ k. leads_on (ran (caught p l a.site (handle_next p l a.site a.handler k) k)) (rest.leads k);
      stack = got_cut a.at m.stack c.give_all.new.m.stack c.give_all.result stack;
    }

pub returns-in-Raised : goal.returns-in-Raised
returns-in-Raised g c =
    let a = c.args in
    let m = a.m.now in
    let p = a.p.now in
    let l = level p a.b.now.level in
    let ran = rw (c.inner.ensures, c.in-Failed.is, c.in-Raised.is) at c.apart-got.ensures.leads in
    let rest = c.handle.ensures in
    let stack = rw c.apart-got.ensures.stack at rest.stack in
    record {
      leads = λ k. leads_on (ran (caught p l a.site (handle_next p l a.site a.handler k) k)) (rest.leads k);
      stack = got_cut a.at m.stack c.handle.new.m.stack c.handle.result stack;
    }
