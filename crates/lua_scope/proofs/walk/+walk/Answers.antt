use Rattle.std.proofs.Common.{◌≡◌, ◌∙◌, ap, sym, subst, map, false, true, OnOk}
use Rattle.lua_scope.specs.Survey.{told, ended, exited}
use Rattle.lua_scope.specs.Rules.{Tells, scope_of, with_name, with_names, named_local, variable, stat_part, block_part}
use Rattle.lua_scope.proofs.RuleLemmas.{extends_both, extends_same, extends_is, extends_name, extends_names, block_extends, closed_scope, ended_scope, repeat_after, block_found, block_fault, block_scope, found_step, fault_step, scope_step}
use Rattle.lua_scope.proofs.walk.+walk.Goals as goal

pub nested-returns-clause-scope : goal.nested-returns-clause-scope
nested-returns-clause-scope t c =
    ap scope_of (c.end.ensures ∙ ap (λ b. ended b c.block.new.survey) c.begin-begun.ensures)
    ∙ closed_scope c.args.survey.now c.block.new.survey
    (extends_both (scope_of c.args.survey.now) ((block_part c.args.b.now false).after (scope_of c.args.survey.now)) (scope_of c.block.new.survey)
    (block_extends c.args.b.now false (scope_of c.args.survey.now))
    (extends_is ((block_part c.args.b.now false).after (scope_of c.args.survey.now)) (scope_of c.block.new.survey) c.in_ok-block.ensures.scope))

pub looped-returns-clause-scope : goal.looped-returns-clause-scope
looped-returns-clause-scope t c =
    let before = scope_of c.args.survey.now in
    let looping = scope_of c.enter_loop.new.self in
    let declared = scope_of c.declare_all.new.survey in
    let after = scope_of c.block.new.survey in
    ap scope_of (c.end.ensures ∙ ap (λ b. ended b c.block.new.survey) c.begin-begun.ensures)
    ∙ closed_scope c.args.survey.now c.block.new.survey
    (extends_both before looping after
    (extends_same before looping (ap (λ x. map named_local x.locals) c.enter_loop.ensures) (ap (λ x. x.labels) c.enter_loop.ensures) (ap (λ x. x.blocks) c.enter_loop.ensures))
    (extends_both looping declared after
    (extends_both looping (with_names (map variable c.args.variables.now) looping) declared
    (extends_names (map variable c.args.variables.now) looping)
    (extends_is (with_names (map variable c.args.variables.now) looping) declared c.in_ok-declare_all.ensures.scope))
    (extends_both declared ((block_part c.args.b.now false).after declared) after
    (block_extends c.args.b.now false declared)
    (extends_is ((block_part c.args.b.now false).after declared) after c.in_ok-block.ensures.scope))))

pub counted-returns-clause-scope : goal.counted-returns-clause-scope
counted-returns-clause-scope t c =
    let before = scope_of c.args.survey.now in
    let looping = scope_of c.enter_loop.new.self in
    let declared = scope_of c.declare.new.self in
    let after = scope_of c.block.new.survey in
    ap scope_of (c.end.ensures ∙ ap (λ b. ended b c.block.new.survey) c.begin-begun.ensures)
    ∙ closed_scope c.args.survey.now c.block.new.survey
    (extends_both before looping after
    (extends_same before looping (ap (λ x. map named_local x.locals) c.enter_loop.ensures) (ap (λ x. x.labels) c.enter_loop.ensures) (ap (λ x. x.blocks) c.enter_loop.ensures))
    (extends_both looping declared after
    (extends_both looping (with_name (c.args.name.now, false) looping) declared
    (extends_name (c.args.name.now, false) looping)
    (extends_is (with_name (c.args.name.now, false) looping) declared c.in_ok-declare.ensures.scope))
    (extends_both declared ((block_part c.args.b.now false).after declared) after
    (block_extends c.args.b.now false declared)
    (extends_is ((block_part c.args.b.now false).after declared) after c.in_ok-block.ensures.scope))))

pub until-returns-clause-scope : goal.until-returns-clause-scope
until-returns-clause-scope t c =
    ap scope_of c.end.ensures ∙ ended_scope c.args.begun c.args.survey.now c.expr.new.survey c.in_ok-expr.ensures.scope

pub stat-returns-in_ok-block-in-Repeat-clause-scope : goal.stat-returns-in_ok-block-in-Repeat-clause-scope
stat-returns-in_ok-block-in-Repeat-clause-scope t c =
    let before = scope_of c.args.survey.now in
    let looping = scope_of c.enter_loop.new.self in
    let after = scope_of c.block.new.survey in
    let own = c.in-Repeat.b in
    subst (λ z. OnOk c.until.result (scope_of c.until.new.survey ≡ z))
    (ap (λ b. scope_of (ended b c.block.new.survey)) c.begin-begun.ensures
    ∙ closed_scope c.args.survey.now c.block.new.survey
    (extends_both before looping after
    (extends_same before looping (ap (λ x. map named_local x.locals) c.enter_loop.ensures) (ap (λ x. x.labels) c.enter_loop.ensures) (ap (λ x. x.blocks) c.enter_loop.ensures))
    (extends_both looping ((block_part own true).after looping) after
    (block_extends own true looping)
    (extends_is ((block_part own true).after looping) after c.in_ok-block-in-Repeat.ensures.scope)))
    ∙ sym (ap (λ x. (stat_part x).what.after before) c.in-Repeat.is ∙ repeat_after c.in-Repeat.b c.in-Repeat.e before))
    c.until.ensures.scope

pub block-returns-clause-found : goal.block-returns-clause-found
block-returns-clause-found t c =
    subst (λ z. OnOk c.stats.result (c.stats.new.survey ≡ z))
    (block_found c.args.b.now c.args.is_repeat c.as_slice-all.result.now c.args.survey.now c.open.new.self c.as_slice-all.ensures c.in_ok-open.ensures.found)
    c.stats.ensures.found

pub block-returns-clause-fault : goal.block-returns-clause-fault
block-returns-clause-fault t c =
    subst (λ z. Tells z (told c.stats.result c.stats.new.survey))
    (block_fault c.args.b.now c.args.is_repeat c.as_slice-all.result.now (scope_of c.args.survey.now) (scope_of c.open.new.self) c.as_slice-all.ensures c.in_ok-open.ensures.scope)
    c.stats.ensures.fault

pub block-returns-clause-scope : goal.block-returns-clause-scope
block-returns-clause-scope t c =
    subst (λ z. OnOk c.stats.result (scope_of c.stats.new.survey ≡ z))
    (block_scope c.args.b.now c.args.is_repeat c.as_slice-all.result.now (scope_of c.args.survey.now) (scope_of c.open.new.self) c.as_slice-all.ensures c.in_ok-open.ensures.scope)
    c.stats.ensures.scope

pub body-returns-clause-scope : goal.body-returns-clause-scope
body-returns-clause-scope t c =
    let before = scope_of c.args.survey.now in
    let inside = scope_of c.enter.new.self in
    let announced = scope_of c.announce_all.new.survey in
    let declared = scope_of c.declare_all.new.survey in
    let after = scope_of c.block.new.survey in
    let vs = map variable c.as_slice-2.result.now in
    let own = c.args.b.now.block in
    ap scope_of (c.in_ok-exit.ensures.exited ∙ ap (λ o. exited o c.block.new.survey) c.in_ok-outer.ensures.outer)
    ∙ closed_scope c.args.survey.now c.block.new.survey
    (extends_both before inside after
    (extends_same before inside (ap (λ x. map named_local x.locals) c.in_ok-outer.ensures.entered) (ap (λ x. x.labels) c.in_ok-outer.ensures.entered) (ap (λ x. x.blocks) c.in_ok-outer.ensures.entered))
    (extends_both inside announced after
    (extends_is inside announced (ap scope_of c.in_ok-announce_all.ensures.same))
    (extends_both announced declared after
    (extends_both announced (with_names vs announced) declared
    (extends_names vs announced)
    (extends_is (with_names vs announced) declared c.in_ok-declare_all.ensures.scope))
    (extends_both declared ((block_part own false).after declared) after
    (block_extends own false declared)
    (extends_is ((block_part own false).after declared) after c.in_ok-block.ensures.scope)))))

pub stats-loop-s-preserved : goal.stats-loop-s-preserved
stats-loop-s-preserved t c = (
  sym (found_step c.args.all.now c.loop-s.s-index c.s-item.result c.loop-s.survey c.stat.new.survey c.loop-s-test.true c.s-item.is c.in_ok-stat.ensures.found) ∙ c.loop-s.invariant.0,
  sym (fault_step c.args.all.now c.loop-s.s-index c.s-item.result (scope_of c.loop-s.survey) (scope_of c.stat.new.survey) c.loop-s-test.true c.s-item.is c.in_ok-stat.ensures.fault c.in_ok-stat.ensures.scope) ∙ c.loop-s.invariant.1,
  sym (scope_step c.args.all.now c.loop-s.s-index c.s-item.result (scope_of c.loop-s.survey) (scope_of c.stat.new.survey) c.loop-s-test.true c.s-item.is c.in_ok-stat.ensures.scope) ∙ c.loop-s.invariant.2,
)
