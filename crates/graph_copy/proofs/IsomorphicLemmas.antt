-- A packed graph is isomorphic to its source.
use Rattle.std.proofs.Common.{◌≡◌, ◌∙◌, ℕ, suc, ◌+◌, inr, Bool, true, false, nat_eq, if◌then◌else◌, List, [], ◌∷◌, ◌++◌, map, filter, slice_get, Option, None, Some, codes, refl, ap, sym, subst}
use Rattle.std.specs.Option.{option_map, option_map_or}
use Rattle.std.proofs.lemmas.Option.{none-some, same_Some, slice_get-map}
use Rattle.lanes_arena.specs.declared.id.Id.{Id}
use Rattle.object_store.specs.declared.value.Cells.{Cells}
use Rattle.object_store.specs.declared.value.Value.{Value}
use Rattle.object_store.specs.declared.value.Value.TheVariants as value
use Rattle.object_store.specs.declared.state.Function.{Function}
use Rattle.object_store.specs.declared.state.Cell.{Cell}
use Rattle.object_store.specs.Value.{TableId}
use Rattle.object_store.specs.Pairs.{is_live}
use Rattle.object_store.specs.Table.{Contents}
use Rattle.object_store.specs.Heap.{Heap}
use Rattle.parcel.specs.declared.leaf.Leaf.{Leaf}
use Rattle.parcel.specs.declared.leaf.Leaf.TheVariants as leaf
use Rattle.parcel.specs.declared.node.Node.TheVariants as node
use Rattle.parcel.specs.declared.parcel.Parcel.{Parcel}
use Rattle.metatable_ids.specs.Registry.{Registry}
use Rattle.graph_copy.specs.declared.object.Object.{Object}
use Rattle.graph_copy.specs.declared.object.Object.TheVariants as object
use Rattle.graph_copy.specs.Graph.{Target, to_object, to_plain, target_of, Edge, graph_of, root_edges, edges_of, pair_edges, meta_edges, cell_edges, table_edges, function_edges, content_edges}
use Rattle.graph_copy.specs.Numbering.{HasNumber, IsNumbering}
use Rattle.graph_copy.specs.Packing.{number_in, leaf_of, leaves_of, cell_number, carried_meta, table_node, function_node, cell_node, node_of, parcel_of, Packs}
use Rattle.graph_copy.specs.Isomorphic.{Part, leaf_part, node_part, table_content, Correspond, SamePart, SameParts, SamePairs, SameNodes, SameMeta, SameContent, Isomorphic, part_of, heap_table, heap_function, heap_cell, heap_content, heap_shape, part_of_leaf, node_content, parcel_shape}
use Rattle.graph_copy.proofs.CallerLemmas.{number_in-node, closed_under_edges, roots_are_nodes}

module _ (nodes : List Object) where
  abbrev pub named : List (Object × ℕ)
  named = map (λ x. (x, number_in nodes x)) nodes

  -- what a target leads to is a node
  abbrev Known : Target → Type 0
  Known t = (x : Object) → t ≡ to_object x → HasNumber nodes x

  abbrev AllKnown : List Edge → Type 0
  AllKnown [] = Unit {0}
  AllKnown (e ∷ es) = Known e.target × AllKnown es

  known_from : (edges : List Edge) → ((m : ℕ) (e : Edge) → slice_get edges m ≡ Some e → Known e.target) → AllKnown edges
  known_from [] each = tt
  known_from (e ∷ es) each = (each 0 e refl, known_from es (λ m f at. each (suc m) f at))

  corresponds : (x : Object) → HasNumber nodes x → Correspond named x (number_in nodes x)
  corresponds x h = (h.number, slice_get-map (λ y. let p : Object × ℕ = (y, number_in nodes y) in p) nodes h.number ∙ ap (option_map (λ y. let p : Object × ℕ = (y, number_in nodes y) in p)) h.is_there)

  part_same : (texts : List (List ℕ)) (v : Value) → Known (target_of v) → SamePart named (part_of texts v) (part_of_leaf (leaf_of texts nodes v))
  part_same texts value.Nil h = refl
  part_same texts value.False h = refl
  part_same texts value.True h = refl
  part_same texts (value.Int i) h = refl
  part_same texts (value.Str id) h = refl
  part_same texts (value.Table id) h = by (nat_eq id.number 0) refl h
    where
      by : (b : Bool) → nat_eq id.number 0 ≡ b → Known (if b then to_plain else to_object (object.Table id)) → SamePart named (if b then leaf_part leaf.Globals else node_part (object.Table id)) (part_of_leaf (if b then leaf.Globals else leaf.Node (number_in nodes (object.Table id))))
      by true e known = refl
      by false e known = corresponds (object.Table id) (known (object.Table id) refl)
  part_same texts (value.Func id) h = corresponds (object.Function id) (h (object.Function id) refl)
  part_same texts (value.Lib id) h = refl
  part_same texts (value.Linda n) h = refl
  part_same texts (value.Lane n) h = refl
  part_same texts (value.Light id) h = refl

  abbrev parts : List (List ℕ) → Value × Value → Part Object × Part Object
  parts texts pair = (part_of texts pair.0, part_of texts pair.1)

  abbrev leaf_parts : Leaf × Leaf → Part ℕ × Part ℕ
  leaf_parts pair = (part_of_leaf pair.0, part_of_leaf pair.1)

  pairs_same : (texts : List (List ℕ)) (n : ℕ) (pairs : List (Value × Value)) (rest : List Edge) → AllKnown (pair_edges texts n pairs ++ rest) → SamePairs named (map (parts texts) pairs) (map leaf_parts (map (leaves_of texts nodes) pairs)) × AllKnown rest
  pairs_same texts n [] rest all = (tt, all)
  pairs_same texts n (p ∷ ps) rest all =
      let ih = pairs_same texts (n + 1) ps rest all.1.1 in
      ((part_same texts p.0 all.0, part_same texts p.1 all.1.0, ih.0), ih.1)

  meta_same : (meta : Option TableId) → AllKnown (meta_edges meta) → SameMeta named (option_map object.Table (carried_meta meta)) (option_map (λ m. number_in nodes (object.Table m)) (carried_meta meta))
  meta_same None all = tt
  meta_same (Some id) all = by (nat_eq id.number 0) all
    where
      by : (b : Bool) → AllKnown (if b then [] else record { text = codes "<metatable>"; target = to_object (object.Table id) } ∷ []) → SameMeta named (option_map object.Table (if b then None else Some id)) (option_map (λ m. number_in nodes (object.Table m)) (if b then None else Some id))
      by true known = tt
      by false known = corresponds (object.Table id) (known.0 (object.Table id) refl)

  cells_same : (n : ℕ) (ids : List (Id Cells)) → AllKnown (cell_edges n ids) → SameNodes named (map object.Cell ids) (map (cell_number nodes) ids)
  cells_same n [] all = tt
  cells_same n (id ∷ ids) all = (corresponds (object.Cell id) (all.0 (object.Cell id) refl), cells_same (n + 1) ids all.1)

  roots_same : (texts : List (List ℕ)) (roots : List Value) → AllKnown (root_edges roots) → SameParts named (map (part_of texts) roots) (map part_of_leaf (map (leaf_of texts nodes) roots))
  roots_same texts [] all = tt
  roots_same texts (r ∷ rs) all = (part_same texts r all.0, roots_same texts rs all.1)

  content_same : (heap : Heap) (texts : List (List ℕ)) (registry : Registry) (x : Object) → AllKnown (edges_of heap texts x) → SameContent named (heap_content heap texts x) (node_content (node_of heap texts registry nodes x))
  content_same heap texts registry (object.Table id) all = by (slice_get heap.tables id.number) all
    where
      by : (o : Option Contents) → AllKnown (table_edges texts o) → SameContent named (option_map_or (heap_table texts) o (table_content [] None)) (node_content (option_map_or (table_node texts registry nodes id) o (node.Table [] None None)))
      by None known = (tt, tt)
      by (Some t) known = let ps = pairs_same texts 1 (filter is_live t.pairs) (meta_edges t.meta) known in (ps.0, meta_same t.meta ps.1)
  content_same heap texts registry (object.Function id) all = by (slice_get heap.functions id.number) all
    where
      by : (o : Option Function) → AllKnown (function_edges o) → SameContent named (option_map_or heap_function o (table_content [] None)) (node_content (option_map_or (function_node nodes) o (node.Table [] None None)))
      by None known = (tt, tt)
      by (Some f) known = (refl, cells_same 1 f.cells known)
  content_same heap texts registry (object.Cell id) all = by (slice_get heap.cells id.number) all
    where
      by : (o : Option Cell) → AllKnown (content_edges o) → SameContent named (option_map_or (heap_cell texts) o (table_content [] None)) (node_content (option_map_or (cell_node texts nodes) o (node.Table [] None None)))
      by None known = (tt, tt)
      by (Some c) known = part_same texts c.content known.0

  record Named (i : ℕ) (a : Object) (b : ℕ) : Type 0 where
    pub is_there : slice_get nodes i ≡ Some a
    pub number : b ≡ number_in nodes a

  named_at : (i : ℕ) (a : Object) (b : ℕ) → slice_get named i ≡ Some (a, b) → Named i a b
  named_at i a b at = by (slice_get nodes i) refl (sym (slice_get-map (λ y. let p : Object × ℕ = (y, number_in nodes y) in p) nodes i) ∙ at)
    where
      by : (o : Option Object) → slice_get nodes i ≡ o → option_map (λ y. let p : Object × ℕ = (y, number_in nodes y) in p) o ≡ Some (a, b) → Named i a b
      by None is e = absurd (none-some _ e)
      by (Some x) is e =
          let same = same_Some _ _ e in
          let first : x ≡ a = ap (λ (p : Object × ℕ). p.0) same in
          record { is_there = is ∙ ap Some first; number = sym (ap (λ (p : Object × ℕ). p.1) same) ∙ ap (number_in nodes) first }

module _ (heap : Heap) (texts : List (List ℕ)) (roots : List Value) (nodes : List Object) (numbered : IsNumbering (graph_of heap texts roots) nodes) (registry : Registry) where
  content : (i : ℕ) (x : Object) (b : ℕ) → Named nodes i x b → SameContent (named nodes) (heap_content heap texts x) (option_map_or node_content (slice_get (map (node_of heap texts registry nodes) nodes) b) (table_content [] None))
  content i x b h =
      let place = number_in-node nodes i x numbered.once h.is_there in
      let at : slice_get (map (node_of heap texts registry nodes) nodes) b ≡ Some (node_of heap texts registry nodes x) =
      ap (slice_get (map (node_of heap texts registry nodes) nodes)) (h.number ∙ place) ∙ slice_get-map (node_of heap texts registry nodes) nodes i ∙ ap (option_map (node_of heap texts registry nodes)) h.is_there in
      subst (λ o. SameContent (named nodes) (heap_content heap texts x) (option_map_or node_content o (table_content [] None))) (sym at)
      (content_same nodes heap texts registry x (known_from nodes (edges_of heap texts x) (λ m e there y to. closed_under_edges (graph_of heap texts roots) nodes numbered i m x y e h.is_there there to)))

  isomorphic : Isomorphic (heap_shape heap texts roots) (parcel_shape (parcel_of heap texts registry nodes roots)) []
  isomorphic = record {
    pairs = named nodes;
    one_left = λ i j x b c at_b at_c.
        let h = named_at nodes i x b at_b in
        let k = named_at nodes j x c at_c in
        h.number ∙ sym k.number;
    one_right = λ i j x y c at_x at_y.
        let h = named_at nodes i x c at_x in
        let k = named_at nodes j y c at_y in
        let place_x = number_in-node nodes i x numbered.once h.is_there in
        let place_y = number_in-node nodes j y numbered.once k.is_there in
        let same : i ≡ j = sym place_x ∙ sym h.number ∙ k.number ∙ place_y in
        same_Some _ _ (sym h.is_there ∙ ap (slice_get nodes) same ∙ k.is_there);
    roots = roots_same nodes texts roots (known_from nodes (root_edges roots) (λ m e at x to. roots_are_nodes (graph_of heap texts roots) nodes numbered m x e at to));
    contents = λ i x b at. inr (content i x b (named_at nodes i x b at));
  }

-- a packed graph is isomorphic to its source, without ends
pub packs_isomorphic : (heap : Heap) (texts : List (List ℕ)) (roots : List Value) (limit : ℕ) (old new : Registry) (parcel : Parcel) → Packs heap texts roots limit old new parcel → Isomorphic (heap_shape heap texts roots) (parcel_shape parcel) []
packs_isomorphic heap texts roots limit old new parcel a = subst (λ (p : Parcel). Isomorphic (heap_shape heap texts roots) (parcel_shape p) []) (sym a.parcel_is) (isomorphic heap texts roots a.nodes a.numbered new)
