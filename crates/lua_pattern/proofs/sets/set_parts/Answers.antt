use Rattle.std.proofs.Common.{◌≡◌, sym, ◌∙◌, ap, subst, ◌-◌, ◌+◌, length, List, Ok}
use Rattle.lua_pattern.specs.declared.single.Part.{Part}
use Rattle.lua_pattern.specs.Reading as spec
use Rattle.lua_pattern.proofs.ReadingLemmas.{behind_parts, parts_fault, parts_end, parts_next}
use Rattle.lua_pattern.proofs.sets.set_parts.Goals as goal

pub returns-in-Some : goal.returns-in-Some
returns-in-Some c =
    parts_end (spec.set_parts (length c.args.bytes.now) c.args.bytes.now) c.loop-turn.parts.items c.in-Ok.part c.loop-turn.left.now c.in-Ok.rest.now c.in-Some.behind.now (length c.args.bytes.now) c.loop-turn._turn
    c.loop-turn-test.true c.loop-turn.invariant c.in-Ok.ensures c.in-Some.ensures
    ∙ ap (λ ps. Ok (ps, c.in-Some.behind.now)) (sym (c.of.ensures ∙ c.in_ok-push-in-Ok.ensures.items))

pub returns-in-Err : goal.returns-in-Err
returns-in-Err c =
    parts_fault (spec.set_parts (length c.args.bytes.now) c.args.bytes.now) c.loop-turn.parts.items c.loop-turn.left.now (length c.args.bytes.now) c.loop-turn._turn c.in-Err.fault
    c.loop-turn-test.true c.loop-turn.invariant c.in-Err.ensures

pub loop-turn-preserved : goal.loop-turn-preserved
loop-turn-preserved c =
    let P : List Part → Type 0 = λ ps. behind_parts ps (spec.set_parts (length c.args.bytes.now - (c.loop-turn._turn + 1)) c.in-Ok.rest.now) ≡ spec.set_parts (length c.args.bytes.now) c.args.bytes.now in
    subst P (sym c.in_ok-push-in-Ok.ensures.items)
    (parts_next (spec.set_parts (length c.args.bytes.now) c.args.bytes.now) c.loop-turn.parts.items c.in-Ok.part c.loop-turn.left.now c.in-Ok.rest.now (length c.args.bytes.now) c.loop-turn._turn
    c.loop-turn-test.true c.loop-turn.invariant c.in-Ok.ensures c.in_default.ensures)
