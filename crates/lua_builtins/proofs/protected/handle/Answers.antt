use Rattle.std.proofs.Common.{ap, ◌∙◌}
use Rattle.lua_meaning.specs.Run.{lost}
use Rattle.lua_meaning.specs.Levels.{level}
use Rattle.lua_meaning.specs.Library.{handled_by}
use Rattle.lua_machine.specs.Piled.{with_values}
use Rattle.lua_machine.proofs.Leads.{leads_on}
use Rattle.lua_builtins.proofs.Stacks.{one_args, one_below}
use Rattle.lua_builtins.proofs.protected.handle.Goals as goal

pub returns-in-Failed : goal.returns-in-Failed
returns-in-Failed g c = record { leads = λ k. rw c.in-Failed.ensures lost; stack = tt }

pub returns-in-One : goal.returns-in-One
returns-in-One g c =
    let a = c.args in
    let m = a.m.now in
    let p = a.p.now in
    let l = level p a.b.now.level in
    let ran = rw (c.inner.ensures, c.in-One.is, c.in-Well.ensures, one_args a.at m.stack.values a.error c.requires.within) at c.apart-got.ensures.leads in
    let cut = rw c.in-Well.ensures at c.apart-got.ensures.stack in
    let same = cut ∙ ap (with_values m.stack) (one_below a.at m.stack.values a.error c.requires.within) in
    let rest = c.give_two.ensures in
    let stack = rw same at rest.stack in
    record {
      leads = λ k. leads_on (ran (handled_by p l a.site k)) (rest.leads k);
      stack = stack;
    }

pub returns-in-Many : goal.returns-in-Many
returns-in-Many g c =
    let a = c.args in
    let m = a.m.now in
    let p = a.p.now in
    let l = level p a.b.now.level in
    let ran = rw (c.inner.ensures, c.in-Many.is, c.in-Well.ensures, one_args a.at m.stack.values a.error c.requires.within) at c.apart-got.ensures.leads in
    let cut = rw c.in-Well.ensures at c.apart-got.ensures.stack in
    let same = cut ∙ ap (with_values m.stack) (one_below a.at m.stack.values a.error c.requires.within) in
    let rest = (rw c.first_of.ensures at c.give_two-in-Many.ensures) in
    let stack = rw same at rest.stack in
    record {
      leads = λ k. leads_on (ran (handled_by p l a.site k)) (rest.leads k);
      stack = stack;
    }

pub returns-in-Raised : goal.returns-in-Raised
returns-in-Raised g c =
    let a = c.args in
    let m = a.m.now in
    let p = a.p.now in
    let l = level p a.b.now.level in
    let ran = rw (c.inner.ensures, c.in-Failed-got.is, c.in-Raised.is, c.in-Well.ensures, one_args a.at m.stack.values a.error c.requires.within) at c.apart-got.ensures.leads in
    let cut = rw c.in-Well.ensures at c.apart-got.ensures.stack in
    let same = cut ∙ ap (with_values m.stack) (one_below a.at m.stack.values a.error c.requires.within) in
    let rest = c.give_two-in-Raised.ensures in
    let stack = rw same at rest.stack in
    record {
      leads = λ k. leads_on (ran (handled_by p l a.site k)) (rest.leads k);
      stack = stack;
    }
