use Rattle.std.proofs.Common.{◌≡◌, ◌∙◌, ◌+◌, ◌<◌, ◌≤◌, suc, length, slice_get, map, ap, sym, subst, arith, None, Some}
use Rattle.std.specs.Option.{option_copied}
use Rattle.graph_copy.specs.declared.object.Object.{Object}
use Rattle.graph_copy.specs.Graph.{target_of}
use Rattle.graph_copy.specs.Search.{Seen, seen_of, met_all, object_targets}
use Rattle.graph_copy.proofs.WalkLemmas.{Past, nothing, roots_walk, object_walk, walk_over}
use Rattle.graph_copy.proofs.walk.walk_from.Goals as goal
use Rattle.graph_copy.proofs.walk.walk_from.Goals.{then-loop-next-test+else-len-le-MOST_NODES, else-loop-next-test}

pub loop-next-init : goal.loop-next-init
loop-next-init c =
    let start : Seen = record { found = c.new.result.keys; origins = c.new-2.result.items; lane = None } in
    let empty : start ≡ nothing = λ j. record { found = c.new.ensures.empty j; origins = c.new-2.ensures.items j; lane = None } in
    roots_walk 1048576 c.args.state.now.heap c.args.state.now.texts c.args.roots.now (seen_of c.visit_roots.new.self) (c.in_ok-visit_roots.ensures ∙ ap (λ s. met_all 1048576 s 0 0 (map target_of c.args.roots.now)) empty)

pub loop-next-preserved : goal.loop-next-preserved
loop-next-preserved c =
    let x : Object = c.unwrap-object.result.now in
    let at : slice_get c.loop-next.walk.found.keys c.loop-next.next ≡ Some x = sym c.get_index.ensures.key ∙ ap option_copied c.unwrap-object.ensures in
    let next : c.loop-next.next + 1 ≡ suc c.loop-next.next = omega arith in
    let more : c.loop-next.next < length c.loop-next.walk.found.keys = let a = c.len.ensures.len in let b = c.loop-next-test.true in omega (arith, a, b) in
    let few : length c.loop-next.walk.found.keys ≤ 1048576 = let a = c.len-in-loop-next.ensures.len in let b = c.if-len-le-MOST_NODES.true in omega (arith, a, b) in
    subst (Past 1048576 c.args.state.now.heap c.args.state.now.texts c.args.roots.now (seen_of c.expand.new.self)) (sym next)
    (object_walk 1048576 c.args.state.now.heap c.args.state.now.texts c.args.roots.now (seen_of c.loop-next.walk) (seen_of c.expand.new.self) c.loop-next.next x c.loop-next.invariant more few at
    (c.in_ok-expand.ensures ∙ ap (λ n. met_all 1048576 (seen_of c.loop-next.walk) n 0 (object_targets c.args.state.now.heap x)) next))

pub returns : goal.returns
returns c = walk_over 1048576 c.args.state.now.heap c.args.state.now.texts c.args.roots.now (seen_of c.loop-next.walk) c.loop-next.next c.loop-next.invariant c.len.ensures.unique
    (λ le. elim c.loop-next-test.branch [
      | then-loop-next-test+else-len-le-MOST_NODES w ↦ absurd (let a = w.len-in-loop-next.ensures.len in let b = w.if-len-le-MOST_NODES.false in omega (arith, a, b, le))
      | else-loop-next-test w ↦ let a = c.len.ensures.len in let b = w.loop-next-test.false in omega (arith, a, b)
    ])
