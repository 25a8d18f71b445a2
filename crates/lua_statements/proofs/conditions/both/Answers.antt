use Rattle.std.proofs.Common.{◌∙◌}
use Rattle.lua_program.specs.declared.expr.RPair.{out-RPair}
use Rattle.lua_meaning.specs.Run.{and_then}
use Rattle.lua_meaning.specs.Levels.{level}
use Rattle.lua_machine.specs.Does.{frame, world}
use Rattle.lua_machine.proofs.Leads.{leads_on, from}
use Rattle.lua_statements.proofs.ConditionTurns.{after_and, and_is}
use Rattle.lua_statements.proofs.conditions.both.Goals as goal

pub returns-in-Yes : goal.returns-in-Yes
returns-in-Yes g c =
    let a = c.args in
    let p = a.p.now in
    let l = level p a.b.now.level in
    let f = frame a.f.now a.m.now.stack in
    let two = out-RPair a.pair.now in
    let w = world a.m.now in
    let second = rw c.in-Yes.ensures.stack at c.simple_test-in-Yes.ensures.leads in
    record {
      leads = λ k. from (and_is p l f two w k) (leads_on (c.in-Yes.ensures.leads (and_then k (after_and p l f two w k))) (second k));
      stack = rw c.in-Yes.ensures.stack at c.simple_test-in-Yes.ensures.stack;
    }

pub returns-in-No : goal.returns-in-No
returns-in-No g c =
    let a = c.args in
    let p = a.p.now in
    let l = level p a.b.now.level in
    let f = frame a.f.now a.m.now.stack in
    let two = out-RPair a.pair.now in
    let w = world a.m.now in
    record {
      leads = λ k. from (and_is p l f two w k) (c.in-No.ensures.leads (and_then k (after_and p l f two w k)));
      stack = c.in-No.ensures.stack;
    }

pub returns-in-Failed : goal.returns-in-Failed
returns-in-Failed g c =
    let a = c.args in
    let p = a.p.now in
    let l = level p a.b.now.level in
    let f = frame a.f.now a.m.now.stack in
    let two = out-RPair a.pair.now in
    let w = world a.m.now in
    record {
      leads = λ k. from (and_is p l f two w k) (c.in-Failed.ensures.leads (and_then k (after_and p l f two w k)));
      stack = tt;
    }
