use Rattle.std.proofs.Common.{◌≡◌, sym, ◌∙◌, ap, ◌+◌, ◌-◌, slice_get, slice_set, Option, arith}
use Rattle.lua_pattern.specs.Matches as spec
use Rattle.lua_pattern.specs.declared.capture.Capture.{Capture}
use Rattle.lua_pattern.specs.declared.item.Item.TheVariants as item
use Rattle.lua_pattern.proofs.BestLemmas.{stuck, moved, turned, ended, longest_found, longest_next, longest_none, shorter_found, shorter_next, shorter_stops, shorter_ends, mark_found, mark_missed, missed_so, put_back, not_put}
use Rattle.lua_pattern.proofs.matching.+matching.Goals as goal

pub best-returns-in-None-clause-value : goal.best-returns-in-None-clause-value
best-returns-in-None-clause-value t c = (
  stuck c.loop-item.left.now c.args.items.now c.in-Some.rest.now c.in-Some.item.now c.in-Step.step c.args.subject.now c.loop-item.place c.args.at c.loop-item.captures c.args.captures.now
      c.end.result c.loop-item.invariant.same c.in-Some.ensures.cases.0 c.in-Step.is c.end.ensures.value c.in-None.is,
  c.loop-item.invariant.kept,
)

pub best-returns-in-Repeated-clause-value : goal.best-returns-in-Repeated-clause-value
best-returns-in-Repeated-clause-value t c =
    turned c.loop-item.left.now c.args.items.now c.in-Some.rest.now c.in-Some.item.now (item.Repeated c.in-Repeated.single c.in-Repeated.repeat) c.args.subject.now c.loop-item.place c.args.at c.repeated.new.end
    c.loop-item.captures c.args.captures.now c.repeated.new.captures c.repeated.result c.loop-item.invariant.same c.in-Some.ensures.cases.0 c.in-Repeated.is c.loop-item.invariant.kept c.repeated.ensures.value

pub best-returns-in-Mark-clause-value : goal.best-returns-in-Mark-clause-value
best-returns-in-Mark-clause-value t c =
    turned c.loop-item.left.now c.args.items.now c.in-Some.rest.now c.in-Some.item.now (item.Mark c.in-Mark.bracket c.in-Mark.number) c.args.subject.now c.loop-item.place c.args.at c.marked.new.end
    c.loop-item.captures c.args.captures.now c.marked.new.captures c.marked.result c.loop-item.invariant.same c.in-Some.ensures.cases.0 c.in-Mark.is c.loop-item.invariant.kept c.marked.ensures.value

pub best-returns-clause-value : goal.best-returns-clause-value
best-returns-clause-value t c =
    ended c.loop-item.left.now c.args.items.now c.args.subject.now c.loop-item.place c.args.at c.loop-item.captures c.args.captures.now c.loop-item.invariant.same c.in_default.ensures.cases

pub best-loop-item-preserved : goal.best-loop-item-preserved
best-loop-item-preserved t c = record {
  same = moved c.loop-item.left.now c.args.items.now c.in-Some.rest.now c.in-Some.item.now c.in-Step.step c.args.subject.now c.loop-item.place c.args.at c.in-Some-end.after c.loop-item.captures c.args.captures.now
      c.end.result c.loop-item.invariant.same c.in-Some.ensures.cases.0 c.in-Step.is c.end.ensures.value c.in-Some-end.is;
  kept = c.loop-item.invariant.kept;
  fewer = omega (arith, c.in-Some.ensures.cases.1);
  onward = omega (arith, c.in-Some-end.ensures.bound.0);
  within = c.in-Some-end.ensures.bound.1;
}

pub longest-returns-then-best-clause-value : goal.longest-returns-then-best-clause-value
longest-returns-then-best-clause-value t c =
    longest_found c.args.rest.now c.args.subject.now c.args.captures.now c.loop-untried.captures c.best.new.captures c.args.least c.loop-untried.untried c.args.count c.best.new.end c.best.result
    c.loop-untried-test.true c.loop-untried.invariant.same c.best.ensures.value c.if-best.true

pub longest-loop-untried-preserved : goal.longest-loop-untried-preserved
longest-loop-untried-preserved t c = record {
  same = longest_next c.args.rest.now c.args.subject.now c.args.captures.now c.loop-untried.captures c.best.new.captures c.args.least c.loop-untried.untried c.args.count c.best.new.end c.best.result
      c.loop-untried-test.true c.loop-untried.invariant.same c.best.ensures.value c.if-best.false;
  kept = (missed_so (spec.best c.args.rest.now c.args.subject.now (c.args.least + (c.loop-untried.untried - 1)) c.loop-untried.captures) c.best.result c.loop-untried.captures c.best.new.captures c.best.new.end
      c.best.ensures.value c.if-best.false).1 ∙ c.loop-untried.invariant.kept;
  fewer = omega arith;
}

pub longest-returns-clause-value : goal.longest-returns-clause-value
longest-returns-clause-value t c =
    (longest_none c.args.rest.now c.args.subject.now c.args.captures.now c.loop-untried.captures c.args.least c.loop-untried.untried c.args.count c.loop-untried-test.false c.loop-untried.invariant.same, c.loop-untried.invariant.kept)

pub marked-returns-then-best-clause-value : goal.marked-returns-then-best-clause-value
marked-returns-then-best-clause-value t c =
    let put : c.put.new.captures ≡ slice_set c.args.captures.now c.args.number (spec.noted c.args.bracket (slice_get c.args.captures.now c.args.number) c.args.at) =
    c.put.ensures ∙ ap (slice_set c.args.captures.now c.args.number) (c.noted.ensures ∙ ap (λ (o : Option Capture). spec.noted c.args.bracket o c.args.at) c.get-before.ensures) in
    mark_found c.args.rest.now c.args.subject.now (slice_set c.args.captures.now c.args.number (spec.noted c.args.bracket (slice_get c.args.captures.now c.args.number) c.args.at)) c.put.new.captures c.best.new.captures
    c.args.at c.best.new.end c.best.result put c.best.ensures.value c.if-best.true

pub marked-returns-in-Some-clause-value : goal.marked-returns-in-Some-clause-value
marked-returns-in-Some-clause-value t c =
    let put : c.put.new.captures ≡ slice_set c.args.captures.now c.args.number (spec.noted c.args.bracket (slice_get c.args.captures.now c.args.number) c.args.at) =
    c.put.ensures ∙ ap (slice_set c.args.captures.now c.args.number) (c.noted.ensures ∙ ap (λ (o : Option Capture). spec.noted c.args.bracket o c.args.at) c.get-before.ensures) in
    let missed = mark_missed c.args.rest.now c.args.subject.now (slice_set c.args.captures.now c.args.number (spec.noted c.args.bracket (slice_get c.args.captures.now c.args.number) c.args.at)) c.put.new.captures c.best.new.captures
    c.args.at c.best.new.end c.best.result put c.best.ensures.value c.if-best.false in (
      missed.0,
      c.put-in-Some.ensures ∙ (ap (λ cs. slice_set cs c.args.number c.in-Some.capture) missed.1
          ∙ put_back c.args.captures.now c.args.number (spec.noted c.args.bracket (slice_get c.args.captures.now c.args.number) c.args.at) c.in-Some.capture (sym c.get-before.ensures ∙ c.in-Some.is)),
    )

pub marked-returns-in_default-clause-value : goal.marked-returns-in_default-clause-value
marked-returns-in_default-clause-value t c =
    let put : c.put.new.captures ≡ slice_set c.args.captures.now c.args.number (spec.noted c.args.bracket (slice_get c.args.captures.now c.args.number) c.args.at) =
    c.put.ensures ∙ ap (slice_set c.args.captures.now c.args.number) (c.noted.ensures ∙ ap (λ (o : Option Capture). spec.noted c.args.bracket o c.args.at) c.get-before.ensures) in
    let missed = mark_missed c.args.rest.now c.args.subject.now (slice_set c.args.captures.now c.args.number (spec.noted c.args.bracket (slice_get c.args.captures.now c.args.number) c.args.at)) c.put.new.captures c.best.new.captures
    c.args.at c.best.new.end c.best.result put c.best.ensures.value c.if-best.false in
    (missed.0, missed.1 ∙ not_put c.args.captures.now c.args.number (spec.noted c.args.bracket (slice_get c.args.captures.now c.args.number) c.args.at) (sym c.get-before.ensures ∙ c.in_default.is))

pub shortest-returns-then-best-clause-value : goal.shortest-returns-then-best-clause-value
shortest-returns-then-best-clause-value t c =
    shorter_found c.args.rest.now c.args.single.now c.args.subject.now c.args.captures.now c.places.captures c.best.new.captures c.args.at c.places.place c.best.new.end c.best.result c.places.invariant.same c.best.ensures.value c.if-best.true

pub shortest-returns-then-place-subject-clause-value : goal.shortest-returns-then-place-subject-clause-value
shortest-returns-then-place-subject-clause-value t c =
    shorter_ends c.args.rest.now c.args.single.now c.args.subject.now c.args.captures.now c.places.captures c.best.new.captures c.args.at c.places.place c.best.new.end c.best.result (omega arith) c.places.invariant.same c.places.invariant.kept
    c.best.ensures.value c.if-best.false

pub shortest-returns-then-not-admits-clause-value : goal.shortest-returns-then-not-admits-clause-value
shortest-returns-then-not-admits-clause-value t c =
    shorter_stops c.args.rest.now c.args.single.now c.args.subject.now c.args.captures.now c.places.captures c.best.new.captures c.args.at c.places.place c.best.new.end c.best.result (omega arith) (sym c.admits.ensures ∙ c.if-not-admits.true) c.places.invariant.same c.places.invariant.kept
    c.best.ensures.value c.if-best.false

pub shortest-places-preserved : goal.shortest-places-preserved
shortest-places-preserved t c = record {
  same = shorter_next c.args.rest.now c.args.single.now c.args.subject.now c.args.captures.now c.places.captures c.best.new.captures c.args.at c.places.place c.best.new.end c.best.result (omega arith) (sym c.admits.ensures ∙ c.if-not-admits.false) c.places.invariant.same
      c.best.ensures.value c.if-best.false;
  kept = (missed_so (spec.best c.args.rest.now c.args.subject.now c.places.place c.places.captures) c.best.result c.places.captures c.best.new.captures c.best.new.end c.best.ensures.value c.if-best.false).1 ∙ c.places.invariant.kept;
  onward = omega arith;
  within = omega arith;
}
