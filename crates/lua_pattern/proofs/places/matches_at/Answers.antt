use Rattle.lua_pattern.proofs.FoundLemmas.{match_given, match_none_given}
use Rattle.lua_pattern.proofs.places.matches_at.Goals as goal

pub returns-then-best_in-clause-value : goal.returns-then-best_in-clause-value
returns-then-best_in-clause-value c =
    match_given c.args.pattern.now c.args.subject.now c.args.at c.best_in.new.end c.as_slice.result.now c.in_ok-captures.captures.items c.best_in.new.captures.items c.of.result c.best_in.result
    c.as_slice.ensures c.in_ok-captures.ensures c.best_in.ensures.value c.if-best_in.true c.of.ensures

pub returns-else-best_in-clause-value : goal.returns-else-best_in-clause-value
returns-else-best_in-clause-value c =
    match_none_given c.args.pattern.now c.args.subject.now c.args.at c.best_in.new.end c.as_slice.result.now c.in_ok-captures.captures.items c.best_in.new.captures.items c.best_in.result
    c.as_slice.ensures c.in_ok-captures.ensures c.best_in.ensures.value c.if-best_in.false
