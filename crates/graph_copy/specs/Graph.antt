-- The graph of a heap: its nodes are tables other than the globals table, functions and cells.
use Rattle.std.specs.Prelude.{ℕ, ◌+◌, Bool, nat_eq, if◌then◌else◌, List, [], ◌∷◌, ◌++◌, map, filter, get_or, slice_get, Option, None, Some, codes}
use Rattle.std.specs.Fmt.{decimal, signed_decimal}
use Rattle.lanes_arena.specs.declared.id.Id.{Id}
use Rattle.object_store.specs.declared.value.Value.{Value}
use Rattle.object_store.specs.declared.value.Value.TheVariants as value
use Rattle.object_store.specs.declared.value.Cells.{Cells}
use Rattle.object_store.specs.declared.state.Function.{Function}
use Rattle.object_store.specs.declared.state.Cell.{Cell}
use Rattle.object_store.specs.Value.{TableId}
use Rattle.object_store.specs.Pairs.{is_live}
use Rattle.object_store.specs.Table.{Contents}
use Rattle.object_store.specs.Heap.{Heap}
use Rattle.graph_copy.specs.declared.object.Object.{Object}
use Rattle.graph_copy.specs.declared.object.Object.TheVariants as object
pub use Rattle.graph_copy.specs.declared.object.Target.{Target}
pub use Rattle.graph_copy.specs.declared.object.Target.TheVariants.{Object as to_object, Lane as to_lane, Plain as to_plain}
use Rattle.graph_copy.specs.contracts.object.ObjectPartialEq.TheImpl.{eq-value}

-- whether two objects are one: the same kind and the same number
abbrev pub object_eq : Object → Object → Bool
object_eq = eq-value.it

-- what an edge to a value leads to. The globals table has no parts here: it stands for the globals
-- table of the receiver
abbrev pub target_of : Value → Target
target_of (value.Table id) = if nat_eq id.number 0 then to_plain else to_object (object.Table id)
target_of (value.Func id) = to_object (object.Function id)
target_of (value.Lane _) = to_lane
target_of _ = to_plain

-- an edge leads to a target; the text is what it adds to the text of a path
pub record Edge : Type 0 where
  pub text : List ℕ
  pub target : Target

-- the text of the value at a key, the key being that of the table's n-th pair
abbrev pub value_text : List (List ℕ) → Value → ℕ → List ℕ
value_text texts (value.Str id) n = codes "." ++ get_or texts id.number []
value_text texts (value.Int i) n = codes "[" ++ signed_decimal i ++ codes "]"
value_text texts value.True n = codes "[true]"
value_text texts value.False n = codes "[false]"
value_text texts _ n = codes "[#" ++ decimal n ++ codes "]"

abbrev pub key_text : ℕ → List ℕ
key_text n = codes "[key " ++ decimal n ++ codes "]"

-- of each pair, the first of which is the n-th, the key and then the value
abbrev pub pair_edges : List (List ℕ) → ℕ → List (Value × Value) → List Edge
pair_edges texts n [] = []
pair_edges texts n (pair ∷ pairs) =
    record { text = key_text n; target = target_of pair.0 }
    ∷ record { text = value_text texts pair.0 n; target = target_of pair.1 }
    ∷ pair_edges texts (n + 1) pairs

-- the metatable, where there is one that is not the globals table
abbrev pub meta_edges : Option TableId → List Edge
meta_edges None = []
meta_edges (Some id) = if nat_eq id.number 0 then []
    else record { text = codes "<metatable>"; target = to_object (object.Table id) } ∷ []

-- the cells of a function, the first of which is the n-th
abbrev pub cell_edges : ℕ → List (Id Cells) → List Edge
cell_edges n [] = []
cell_edges n (id ∷ ids) =
    record {
      text = codes "<upvalue " ++ decimal n ++ codes ">";
      target = to_object (object.Cell id);
    } ∷ cell_edges (n + 1) ids

abbrev pub table_edges : List (List ℕ) → Option Contents → List Edge
table_edges texts None = []
table_edges texts (Some table) = pair_edges texts 1 (filter is_live table.pairs)
    ++ meta_edges table.meta

abbrev pub function_edges : Option Function → List Edge
function_edges None = []
function_edges (Some function) = cell_edges 1 function.cells

abbrev pub content_edges : Option Cell → List Edge
content_edges None = []
content_edges (Some cell) = record { text = []; target = target_of cell.content } ∷ []

-- the edges of an object, in order: of a table the key and the value of each live pair, and last
-- the metatable; of a function its cells; of a cell its content. An object that isn't there has
-- none
abbrev pub edges_of : Heap → List (List ℕ) → Object → List Edge
edges_of heap texts (object.Table id) = table_edges texts (slice_get heap.tables id.number)
edges_of heap texts (object.Function id) = function_edges (slice_get heap.functions id.number)
edges_of heap texts (object.Cell id) = content_edges (slice_get heap.cells id.number)

-- the edges to the roots
abbrev pub root_edges : List Value → List Edge
root_edges roots = map (λ root. record { text = []; target = target_of root }) roots

-- a graph is its edges to the roots, and those of each object
pub record Graph : Type 0 where
  pub roots : List Edge
  pub edges : Object → List Edge

abbrev pub graph_of : Heap → List (List ℕ) → List Value → Graph
graph_of heap texts roots = record { roots = root_edges roots; edges = edges_of heap texts }
