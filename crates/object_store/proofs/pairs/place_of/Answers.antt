use Rattle.std.proofs.Common.{◌∙◌, ◌<◌, length, arith, rules}
use Rattle.object_store.proofs.PairLemmas.{rest_after-none}
use Rattle.object_store.proofs.RunLemmas.{rest_after-in_run, rest_after-off_run, place_later, none_later, place_within}
use Rattle.object_store.proofs.pairs.place_of.Goals as goal

pub returns-in-Some-clause-rest_after : goal.returns-in-Some-clause-rest_after
returns-in-Some-clause-rest_after c = rest_after-in_run c.args.run.now c.args.rest.now.entries c.args.key c.in-Some.i c.in-Some.ensures.0 c.in-Some.ensures.1

pub returns-in-Some-place_of-clause-rest_after : goal.returns-in-Some-place_of-clause-rest_after
returns-in-Some-place_of-clause-rest_after c =
    rest_after-off_run c.args.run.now c.args.rest.now.entries c.args.key c.in_default.ensures
    ∙ place_later c.args.run.now c.args.rest.now.entries c.args.key c.in-Some-place_of.i c.in-Some-place_of.ensures

pub returns-in-Some-place_of-clause-within : goal.returns-in-Some-place_of-clause-within
returns-in-Some-place_of-clause-within c = omega (arith, place_within c.args.run.now c.args.rest.now.entries c.args.key c.in-Some-place_of.i c.in-Some-place_of.ensures)

pub returns-in-None-clause-rest_after : goal.returns-in-None-clause-rest_after
returns-in-None-clause-rest_after c =
    rest_after-off_run c.args.run.now c.args.rest.now.entries c.args.key c.in_default.ensures ∙ rest_after-none c.args.key c.args.rest.now.entries (none_later c.args.rest.now.entries c.args.key c.in-None.ensures)

pub overflow_add-result : goal.overflow_add-result
overflow_add-result c =
    let below : c.in-Some-place_of.i < length c.args.rest.now.entries = place_within c.args.run.now c.args.rest.now.entries c.args.key c.in-Some-place_of.i c.in-Some-place_of.ensures in
    search rules
