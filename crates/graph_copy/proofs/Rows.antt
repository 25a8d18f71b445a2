-- The definitions computed on small graphs, and what follows from them at once.
use Rattle.std.proofs.Common.{◌≡◌, ℕ, ◌<◌, List, [], ◌∷◌, None, Some, refl, arith, codes, inl, inr}
use Rattle.object_store.specs.declared.value.Value.TheVariants as value
use Rattle.object_store.specs.Value.{TableId}
use Rattle.object_store.specs.Heap.{Heap}
use Rattle.parcel.specs.declared.leaf.Leaf.TheVariants as leaf
use Rattle.parcel.specs.declared.node.Node.TheVariants as node
use Rattle.metatable_ids.specs.Registry.{Registry}
use Rattle.graph_copy.specs.declared.object.Object.TheVariants as object
use Rattle.graph_copy.specs.Graph.{to_object, graph_of}
use Rattle.graph_copy.specs.Paths.{Leads, path_text, IsBefore}
use Rattle.graph_copy.specs.Packing.{marked, parcel_of}

table_id : ℕ → TableId
table_id n = record { number = n; kind = record {} }

-- table 1 is t with t.x = t; table 2 is C with C.__index = C, and is its own metatable
heap : Heap
unfolding table_id
heap = record {
  number = 0;
  tables = (record { pairs = []; meta = None })
      ∷ (record { pairs = (value.Str (record { number = 0 }), value.Table (table_id 1)) ∷ []; meta = None })
      ∷ (record { pairs = (value.Str (record { number = 1 }), value.Table (table_id 2)) ∷ []; meta = Some (table_id 2) })
      ∷ [];
  functions = [];
  cells = [];
  string_meta = None;
  lanes_table = None;
}

texts : List (List ℕ)
texts = codes "x" ∷ codes "__index" ∷ []

no_marks : Registry
no_marks = record { state = 0; pairs = [] }

-- t twice: one node, no mark
self_table : parcel_of heap texts (marked heap (object.Table (table_id 1) ∷ []) no_marks) (object.Table (table_id 1) ∷ []) (value.Table (table_id 1) ∷ value.Table (table_id 1) ∷ [])
    ≡ record { nodes = node.Table ((leaf.Text (codes "x"), leaf.Node 0) ∷ []) None None ∷ []; roots = leaf.Node 0 ∷ leaf.Node 0 ∷ [] }
unfolding heap texts no_marks table_id
self_table = refl

-- C: one node that is its own metatable, with a mark
class : parcel_of heap texts (marked heap (object.Table (table_id 2) ∷ []) no_marks) (object.Table (table_id 2) ∷ []) (value.Table (table_id 2) ∷ [])
    ≡ record { nodes = node.Table ((leaf.Text (codes "__index"), leaf.Node 0) ∷ []) (Some 0) (Some (record { state = 0; table = 2 })) ∷ []; roots = leaf.Node 0 ∷ [] }
unfolding heap texts no_marks table_id
class = refl

-- the value at the first pair of the first root is t again
inner : Leads (graph_of heap texts (value.Table (table_id 1) ∷ [])) (1 ∷ 0 ∷ []) (to_object (object.Table (table_id 1)))
unfolding heap texts table_id
inner = refl

inner_text : path_text (graph_of heap texts (value.Table (table_id 1) ∷ [])) (1 ∷ 0 ∷ []) ≡ codes "value.x"
unfolding heap texts table_id
inner_text = refl

-- fewer edges first, then the lesser place at the first difference, roots first
fewer_first : IsBefore (7 ∷ 3 ∷ []) (0 ∷ 0 ∷ 0 ∷ [])
fewer_first = inl (inl tt)

lesser_root_first : IsBefore (9 ∷ 0 ∷ []) (0 ∷ 1 ∷ [])
lesser_root_first = let less : 0 < 1 = omega arith in inl (inr (refl, less))
