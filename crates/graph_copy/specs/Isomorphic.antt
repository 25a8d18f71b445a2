-- Two graphs are isomorphic where their nodes correspond one to one, with the same kinds, leaves,
-- live pairs in order, code, cells in order and metatables. Nothing is asked behind the pairs of
-- nodes at which the correspondence ends.
use Rattle.std.specs.Prelude.{◌≡◌, ℕ, ◌⊎◌, nat_eq, if◌then◌else◌, List, [], ◌∷◌, map, filter, slice_get, Option, None, Some}
use Rattle.std.specs.Option.{option_map, option_map_or}
use Rattle.lanes_arena.specs.declared.code.Code.{Code}
use Rattle.object_store.specs.declared.value.Value.{Value}
use Rattle.object_store.specs.declared.value.Value.TheVariants as value
use Rattle.object_store.specs.declared.state.Function.{Function}
use Rattle.object_store.specs.declared.state.Cell.{Cell}
use Rattle.object_store.specs.Pairs.{is_live}
use Rattle.object_store.specs.Table.{Contents}
use Rattle.object_store.specs.Heap.{Heap}
use Rattle.parcel.specs.declared.leaf.Leaf.{Leaf}
use Rattle.parcel.specs.declared.leaf.Leaf.TheVariants as leaf
use Rattle.parcel.specs.declared.node.Node.{Node}
use Rattle.parcel.specs.declared.node.Node.TheVariants as node
use Rattle.parcel.specs.declared.parcel.Parcel.{Parcel}
use Rattle.graph_copy.specs.declared.object.Object.{Object}
use Rattle.graph_copy.specs.declared.object.Object.TheVariants as object
use Rattle.graph_copy.specs.Packing.{leaf_of, carried_meta}

-- what stands at a root, in a pair or in a cell: a leaf, or a node by its name
pub data Part (N : Type 0) : Type 0 where
  leaf_part : Leaf → Part N
  node_part : N → Part N

pub data Content (N : Type 0) : Type 0 where
  table_content : List (Part N × Part N) → Option N → Content N
  function_content : Code → List N → Content N
  cell_content : Part N → Content N

-- a graph by the names of its nodes
pub record Shape (N : Type 0) : Type 0 where
  pub roots : List (Part N)
  pub content : N → Content N

module _ {N M : Type 0} (pairs : List (N × M)) where
  -- the two nodes correspond
  abbrev pub Correspond : N → M → Type 0
  Correspond a b = (i : ℕ) × (slice_get pairs i ≡ Some (a, b))

  abbrev pub SamePart : Part N → Part M → Type 0
  SamePart (leaf_part a) (leaf_part b) = a ≡ b
  SamePart (node_part a) (node_part b) = Correspond a b
  SamePart (leaf_part _) (node_part _) = ⊥
  SamePart (node_part _) (leaf_part _) = ⊥

  abbrev pub SameParts : List (Part N) → List (Part M) → Type 0
  SameParts [] [] = Unit {0}
  SameParts (a ∷ as') (b ∷ bs) = SamePart a b × SameParts as' bs
  SameParts [] (_ ∷ _) = ⊥
  SameParts (_ ∷ _) [] = ⊥

  abbrev pub SamePairs : List (Part N × Part N) → List (Part M × Part M) → Type 0
  SamePairs [] [] = Unit {0}
  SamePairs (p ∷ ps) (q ∷ qs) = SamePart p.0 q.0 × SamePart p.1 q.1 × SamePairs ps qs
  SamePairs [] (_ ∷ _) = ⊥
  SamePairs (_ ∷ _) [] = ⊥

  abbrev pub SameNodes : List N → List M → Type 0
  SameNodes [] [] = Unit {0}
  SameNodes (a ∷ as') (b ∷ bs) = Correspond a b × SameNodes as' bs
  SameNodes [] (_ ∷ _) = ⊥
  SameNodes (_ ∷ _) [] = ⊥

  abbrev pub SameMeta : Option N → Option M → Type 0
  SameMeta None None = Unit {0}
  SameMeta (Some a) (Some b) = Correspond a b
  SameMeta None (Some _) = ⊥
  SameMeta (Some _) None = ⊥

  abbrev pub SameContent : Content N → Content M → Type 0
  SameContent (table_content ps m) (table_content qs n) = SamePairs ps qs × SameMeta m n
  SameContent (function_content c ids) (function_content d ns) = (c ≡ d) × SameNodes ids ns
  SameContent (cell_content a) (cell_content b) = SamePart a b
  SameContent _ _ = ⊥

pub record Isomorphic {N M : Type 0} (g : Shape N) (h : Shape M) (ends : List (N × M))
    : Type 0 where
  pub pairs : List (N × M)
  pub one_left : (i j : ℕ) (a : N) (b c : M) → slice_get pairs i ≡ Some (a, b)
      → slice_get pairs j ≡ Some (a, c) → b ≡ c
  pub one_right : (i j : ℕ) (a b : N) (c : M) → slice_get pairs i ≡ Some (a, c)
      → slice_get pairs j ≡ Some (b, c) → a ≡ b
  pub roots : SameParts pairs g.roots h.roots
  pub contents : (i : ℕ) (a : N) (b : M) → slice_get pairs i ≡ Some (a, b)
      → Correspond ends a b ⊎ SameContent pairs (g.content a) (h.content b)

-- a value of a heap as a part; the globals table is a leaf
abbrev pub part_of : List (List ℕ) → Value → Part Object
part_of texts (value.Table id) = if nat_eq id.number 0 then leaf_part leaf.Globals
    else node_part (object.Table id)
part_of texts (value.Func id) = node_part (object.Function id)
part_of texts other = leaf_part (leaf_of texts [] other)

abbrev pub heap_table : List (List ℕ) → Contents → Content Object
heap_table texts table = table_content
    (map (λ pair. (part_of texts pair.0, part_of texts pair.1)) (filter is_live table.pairs))
    (option_map object.Table (carried_meta table.meta))

abbrev pub heap_function : Function → Content Object
heap_function function = function_content function.code (map object.Cell function.cells)

abbrev pub heap_cell : List (List ℕ) → Cell → Content Object
heap_cell texts cell = cell_content (part_of texts cell.content)

abbrev pub heap_content : Heap → List (List ℕ) → Object → Content Object
heap_content heap texts (object.Table id) = option_map_or (heap_table texts)
    (slice_get heap.tables id.number) (table_content [] None)
heap_content heap texts (object.Function id) = option_map_or heap_function
    (slice_get heap.functions id.number) (table_content [] None)
heap_content heap texts (object.Cell id) = option_map_or (heap_cell texts)
    (slice_get heap.cells id.number) (table_content [] None)

-- the graph of a heap behind these roots
abbrev pub heap_shape : Heap → List (List ℕ) → List Value → Shape Object
heap_shape heap texts roots = record {
  roots = map (part_of texts) roots;
  content = heap_content heap texts;
}

abbrev pub part_of_leaf : Leaf → Part ℕ
part_of_leaf (leaf.Node n) = node_part n
part_of_leaf other = leaf_part other

abbrev pub node_content : Node → Content ℕ
node_content (node.Table pairs meta mark) = table_content
    (map (λ pair. (part_of_leaf pair.0, part_of_leaf pair.1)) pairs) meta
node_content (node.Function code cells) = function_content code cells
node_content (node.Cell content) = cell_content (part_of_leaf content)

-- the graph of a parcel
abbrev pub parcel_shape : Parcel → Shape ℕ
parcel_shape parcel = record {
  roots = map part_of_leaf parcel.roots;
  content = λ n. option_map_or node_content (slice_get parcel.nodes n) (table_content [] None);
}
