use Rattle.std.proofs.Common.{◌≡◌, ◌∙◌, ◌≤◌, true, false, is_some, length, sym, ap, subst, arith}
use Rattle.metatable_ids.specs.Registry.{first_pairs}
use Rattle.graph_copy.specs.Graph.{graph_of}
use Rattle.graph_copy.specs.Search.{seen_of}
use Rattle.graph_copy.specs.Packing.{marked}
use Rattle.graph_copy.proofs.IsomorphicLemmas.{packs_isomorphic}
use Rattle.graph_copy.proofs.PackingLemmas.{lane_from, no_lane_from, within, unmarked}
use Rattle.graph_copy.proofs.packing.pack.Goals as goal

pub returns-then-is_some-clause-lane_handle : goal.returns-then-is_some-clause-lane_handle
returns-then-is_some-clause-lane_handle c = λ _.
    let few : length c.in_ok-walk.walk.found.keys ≤ 1048576 = let a = c.len-count.ensures.len in let b = c.if-count-gt-MOST_NODES.false in omega (arith, a, b) in
    let yes : is_some c.in_ok-walk.walk.lane ≡ true = cc (c.is_some.ensures, c.if-is_some.true) in
    lane_from (graph_of c.args.state.now.heap c.args.state.now.texts c.args.roots.now) 1048576 (seen_of c.in_ok-walk.walk) c.in_ok-walk.ensures few yes

pub returns-in-Ok-clause-ok : goal.returns-in-Ok-clause-ok
returns-in-Ok-clause-ok c =
    let few : length c.in_ok-walk.walk.found.keys ≤ 1048576 = let a = c.len-count.ensures.len in let b = c.if-count-gt-MOST_NODES.false in omega (arith, a, b) in
    let no : is_some c.in_ok-walk.walk.lane ≡ false = cc (c.is_some.ensures, c.if-is_some.false) in
    record {
      nodes = c.in_ok-walk.walk.found.keys;
      numbered = c.in_ok-walk.ensures.numbering few;
      few = few;
      no_lane = no_lane_from (graph_of c.args.state.now.heap c.args.state.now.texts c.args.roots.now) 1048576 (seen_of c.in_ok-walk.walk) c.in_ok-walk.ensures few no;
      registry = c.mark_metas.ensures ∙ (λ j. marked c.args.state.now.heap (c.as_slice.ensures.keys j) (c.in_ok-reserve.ensures.registry j));
      parcel_is = c.in-Ok.ensures;
    }

pub returns-in-Ok-clause-isomorphic : goal.returns-in-Ok-clause-isomorphic
returns-in-Ok-clause-isomorphic c =
    let few : length c.in_ok-walk.walk.found.keys ≤ 1048576 = let a = c.len-count.ensures.len in let b = c.if-count-gt-MOST_NODES.false in omega (arith, a, b) in
    let no : is_some c.in_ok-walk.walk.lane ≡ false = cc (c.is_some.ensures, c.if-is_some.false) in
    packs_isomorphic c.args.state.now.heap c.args.state.now.texts c.args.roots.now 1048576 c.args.marks.now.registry c.mark_metas.new.marks.registry c.in-Ok.parcel (record {
      nodes = c.in_ok-walk.walk.found.keys;
      numbered = c.in_ok-walk.ensures.numbering few;
      few = few;
      no_lane = no_lane_from (graph_of c.args.state.now.heap c.args.state.now.texts c.args.roots.now) 1048576 (seen_of c.in_ok-walk.walk) c.in_ok-walk.ensures few no;
      registry = c.mark_metas.ensures ∙ (λ j. marked c.args.state.now.heap (c.as_slice.ensures.keys j) (c.in_ok-reserve.ensures.registry j));
      parcel_is = c.in-Ok.ensures;
    })

pub forget-requires : goal.forget-requires
forget-requires c = subst (λ r. c.count-before.result ≤ length r.pairs) (sym c.mark_metas.ensures) (within c.reserve.new.self.registry c.args.state.now.heap c.as_slice.result.now c.count-before.result c.count-before.ensures)

pub returns-clause-err : goal.returns-clause-err
returns-clause-err c = c.forget.ensures.registry ∙ ap (λ r. first_pairs r c.count-before.result) c.mark_metas.ensures ∙ unmarked c.args.state.now.heap c.as_slice.result.now c.reserve.new.self.registry c.count-before.result c.count-before.ensures ∙ c.in_ok-reserve.ensures.registry
