use Rattle.std.proofs.Common.{length}
use Rattle.lua_pattern.specs.Reading as spec
use Rattle.lua_pattern.specs.View.{begun_of}
use Rattle.lua_pattern.proofs.ReadingLemmas.{items_end, items_fault, items_refused, items_next, given}
use Rattle.lua_pattern.proofs.reading.pattern.Goals as goal

pub returns-in_default : goal.returns-in_default
returns-in_default c =
    given c.args.anchored (spec.items_of c.args.bytes.now) (spec.finished c.loop-turn.items.items c.loop-turn.brackets.count c.loop-turn.brackets.unclosed.items) c.finished.result
    (items_end (spec.items_of c.args.bytes.now) c.loop-turn.items.items (begun_of c.loop-turn.brackets) c.loop-turn.left.now (length c.args.bytes.now) c.loop-turn._turn (length c.loop-turn.items.items)
    c.loop-turn-test.true c.loop-turn.invariant c.in_default.ensures)
    c.finished.ensures

pub returns-in-Err : goal.returns-in-Err
returns-in-Err c =
    items_fault (spec.items_of c.args.bytes.now) c.loop-turn.items.items (begun_of c.loop-turn.brackets) c.loop-turn.left.now c.in-Some.rest.now c.in-Some.first (length c.args.bytes.now) c.loop-turn._turn (length c.loop-turn.items.items)
    c.args.anchored c.in-Err.fault c.loop-turn-test.true c.loop-turn.invariant c.in-Some.ensures c.in-Err.ensures

pub loop-turn-preserved : goal.loop-turn-preserved
loop-turn-preserved c =
    items_next (spec.items_of c.args.bytes.now) c.loop-turn.items.items c.add.new.items.items (begun_of c.loop-turn.brackets) (begun_of c.item_at.new.brackets) c.in-Ok.item c.loop-turn.left.now c.in-Some.rest.now c.in-Ok.behind.now c.in-Some.first
    (length c.args.bytes.now) c.loop-turn._turn c.loop-turn-test.true c.loop-turn.invariant c.in-Some.ensures c.in-Ok.ensures c.in_default-add.ensures

pub returns-in-Err-add : goal.returns-in-Err-add
returns-in-Err-add c =
    items_refused (spec.items_of c.args.bytes.now) c.loop-turn.items.items c.add.new.items.items (begun_of c.loop-turn.brackets) (begun_of c.item_at.new.brackets) c.in-Ok.item c.loop-turn.left.now c.in-Some.rest.now c.in-Ok.behind.now c.in-Some.first
    (length c.args.bytes.now) c.loop-turn._turn c.args.anchored c.in-Err-add.fault c.loop-turn-test.true c.loop-turn.invariant c.in-Some.ensures c.in-Ok.ensures c.in-Err-add.ensures
