use Rattle.std.proofs.Common.{◌∙◌, arith}
use Rattle.lua_pattern.specs.Matches.{best}
use Rattle.lua_pattern.proofs.BestLemmas.{missed_so}
use Rattle.lua_pattern.proofs.FoundLemmas.{found_given, anchored_given, last_given, next_given}
use Rattle.lua_pattern.proofs.places.find.Goals as goal

pub returns-then-best_in-clause-value : goal.returns-then-best_in-clause-value
returns-then-best_in-clause-value c =
    found_given c.args.pattern.now c.args.subject.now c.args.from c.places.start c.best_in.new.end c.as_slice-items.result.now c.places.captures.items c.best_in.new.captures.items c.of.result c.best_in.result
    c.places.invariant.same c.places.invariant.items_are c.places.invariant.kept c.best_in.ensures.value c.if-best_in.true c.of.ensures

pub returns-then-pattern-clause-value : goal.returns-then-pattern-clause-value
returns-then-pattern-clause-value c =
    anchored_given c.args.pattern.now c.args.subject.now c.args.from c.places.start c.best_in.new.end c.as_slice-items.result.now c.places.captures.items c.best_in.new.captures.items c.best_in.result
    c.places.invariant.same c.places.invariant.items_are c.places.invariant.kept c.best_in.ensures.value c.if-best_in.false c.if-pattern.true

pub returns-then-start-subject-clause-value : goal.returns-then-start-subject-clause-value
returns-then-start-subject-clause-value c =
    last_given c.args.pattern.now c.args.subject.now c.args.from c.places.start c.best_in.new.end c.as_slice-items.result.now c.places.captures.items c.best_in.new.captures.items c.best_in.result
    c.places.invariant.same c.places.invariant.items_are c.places.invariant.kept c.best_in.ensures.value c.if-best_in.false (omega arith)

pub places-preserved : goal.places-preserved
places-preserved c = record {
  same = next_given c.args.pattern.now c.args.subject.now c.args.from c.places.start c.best_in.new.end c.as_slice-items.result.now c.places.captures.items c.best_in.new.captures.items c.best_in.result
      c.places.invariant.same c.places.invariant.items_are c.places.invariant.kept c.best_in.ensures.value c.if-best_in.false c.if-pattern.false (omega arith);
  kept = (missed_so (best c.as_slice-items.result.now c.args.subject.now c.places.start c.places.captures.items) c.best_in.result c.places.captures.items c.best_in.new.captures.items c.best_in.new.end
      c.best_in.ensures.value c.if-best_in.false).1 ∙ c.places.invariant.kept;
  onward = omega arith;
  within = omega arith;
  items_are = c.places.invariant.items_are;
}
