-- The parcel of a graph: its nodes in the order of a numbering, each as plain data.
use Rattle.std.specs.Prelude.{◌≡◌, ℕ, ◌≤◌, true, false, nat_eq, if◌then◌else◌, List, [], ◌∷◌, map, filter, length, slice_get, slice_index_or, Option, None, Some}
use Rattle.std.specs.List.{position_or_len}
use Rattle.std.specs.Option.{option_map, option_map_or}
use Rattle.lanes_arena.specs.declared.id.Id.{Id}
use Rattle.object_store.specs.declared.value.Cells.{Cells}
use Rattle.object_store.specs.declared.value.Value.{Value}
use Rattle.object_store.specs.declared.value.Value.TheVariants as value
use Rattle.object_store.specs.declared.state.Function.{Function}
use Rattle.object_store.specs.declared.state.Cell.{Cell}
use Rattle.object_store.specs.Value.{TableId}
use Rattle.object_store.specs.Pairs.{is_live}
use Rattle.object_store.specs.Table.{Contents}
use Rattle.object_store.specs.Heap.{Heap}
use Rattle.parcel.specs.declared.leaf.Leaf.{Leaf}
use Rattle.parcel.specs.declared.leaf.Leaf.TheVariants as leaf
use Rattle.parcel.specs.declared.node.Node.{Node}
use Rattle.parcel.specs.declared.node.Node.TheVariants as node
use Rattle.parcel.specs.declared.parcel.Parcel.{Parcel}
use Rattle.metatable_ids.specs.Registry.{Registry, mark_of, with_mark}
use Rattle.graph_copy.specs.declared.object.Object.{Object}
use Rattle.graph_copy.specs.declared.object.Object.TheVariants as object
use Rattle.graph_copy.specs.Graph.{to_lane, object_eq, graph_of}
use Rattle.graph_copy.specs.Paths.{Path, Leads}
use Rattle.graph_copy.specs.Numbering.{IsNumbering}

-- the number of an object among the nodes
abbrev pub number_in : List Object → Object → ℕ
number_in nodes object = position_or_len (object_eq object) nodes

-- a value as it stands in the parcel; a lane handle never does
abbrev pub leaf_of : List (List ℕ) → List Object → Value → Leaf
leaf_of texts nodes value.Nil = leaf.Nil
leaf_of texts nodes value.False = leaf.Bool false
leaf_of texts nodes value.True = leaf.Bool true
leaf_of texts nodes (value.Int i) = leaf.Int i
leaf_of texts nodes (value.Str id) = leaf.Text (slice_index_or texts id.number [])
leaf_of texts nodes (value.Table id) = if nat_eq id.number 0 then leaf.Globals
    else leaf.Node (number_in nodes (object.Table id))
leaf_of texts nodes (value.Func id) = leaf.Node (number_in nodes (object.Function id))
leaf_of texts nodes (value.Lib id) = leaf.Lib id.number
leaf_of texts nodes (value.Linda n) = leaf.Linda n
leaf_of texts nodes (value.Lane n) = leaf.Nil
leaf_of texts nodes (value.Light id) = leaf.Light id.number

abbrev pub leaves_of : List (List ℕ) → List Object → Value × Value → Leaf × Leaf
leaves_of texts nodes pair = (leaf_of texts nodes pair.0, leaf_of texts nodes pair.1)

-- the metatable that is carried: none where it is the globals table
abbrev pub carried_meta : Option TableId → Option TableId
carried_meta None = None
carried_meta (Some id) = if nat_eq id.number 0 then None else Some id

abbrev pub table_node : List (List ℕ) → Registry → List Object → TableId → Contents → Node
table_node texts registry nodes id table = node.Table
    (map (leaves_of texts nodes) (filter is_live table.pairs))
    (option_map (λ meta. number_in nodes (object.Table meta)) (carried_meta table.meta))
    (mark_of registry id.number)

abbrev pub cell_number : List Object → Id Cells → ℕ
cell_number nodes id = number_in nodes (object.Cell id)

abbrev pub function_node : List Object → Function → Node
function_node nodes function = node.Function function.code
    (map (cell_number nodes) function.cells)

abbrev pub cell_node : List (List ℕ) → List Object → Cell → Node
cell_node texts nodes cell = node.Cell (leaf_of texts nodes cell.content)

-- an object as a node: of a table its live pairs in their order; the metatable and the mark; of a
-- function what it runs and its cells. An object that isn't there is an empty table
abbrev pub node_of : Heap → List (List ℕ) → Registry → List Object → Object → Node
node_of heap texts registry nodes (object.Table id) = option_map_or
    (table_node texts registry nodes id) (slice_get heap.tables id.number) (node.Table [] None None)
node_of heap texts registry nodes (object.Function id) = option_map_or
    (function_node nodes) (slice_get heap.functions id.number) (node.Table [] None None)
node_of heap texts registry nodes (object.Cell id) = option_map_or
    (cell_node texts nodes) (slice_get heap.cells id.number) (node.Table [] None None)

abbrev pub parcel_of : Heap → List (List ℕ) → Registry → List Object → List Value → Parcel
parcel_of heap texts registry nodes roots = record {
  nodes = map (node_of heap texts registry nodes) nodes;
  roots = map (leaf_of texts nodes) roots;
}

-- the metatable of an object that is a table
abbrev pub meta_of : Heap → Object → Option TableId
meta_of heap (object.Table id) = option_map_or (λ table. carried_meta table.meta)
    (slice_get heap.tables id.number) None
meta_of heap (object.Function id) = None
meta_of heap (object.Cell id) = None

abbrev pub with_meta : Registry → Option TableId → Registry
with_meta registry None = registry
with_meta registry (Some meta) = with_mark registry meta.number

-- once each metatable of these objects has a mark, in the order of the objects
abbrev pub marked : Heap → List Object → Registry → Registry
marked heap [] registry = registry
marked heap (object ∷ objects) registry = marked heap objects
    (with_meta registry (meta_of heap object))

-- the parcel is that of the reachable objects, numbered by least paths, and the registry has since
-- then a mark for each table that is reached as a metatable
pub record Packs (heap : Heap) (texts : List (List ℕ)) (roots : List Value) (limit : ℕ)
    (old new : Registry) (parcel : Parcel) : Type 0 where
  pub nodes : List Object
  pub numbered : IsNumbering (graph_of heap texts roots) nodes
  pub few : length nodes ≤ limit
  pub no_lane : (path : Path) → Leads (graph_of heap texts roots) path to_lane → ⊥
  pub registry : new ≡ marked heap nodes old
  pub parcel_is : parcel ≡ parcel_of heap texts new nodes roots
