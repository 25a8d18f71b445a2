-- A walk on lists: what one edge after the other adds to what was met. Only private functions speak
-- of it: that it numbers the objects by their least paths is a theorem.
use Rattle.std.specs.Prelude.{ℕ, zero, suc, ◌+◌, if◌then◌else◌, nat_lt, nat_eq, filter, slice_get, List, [], ◌∷◌, ◌++◌, map, slice_index_or, length, Option, None, Some, is_some}
use Rattle.std.specs.List.{list_any}
use Rattle.graph_copy.specs.declared.object.Object.{Object}
use Rattle.graph_copy.specs.declared.walk.Origin.{Origin}
use Rattle.graph_copy.specs.declared.walk.Walk.{Walk}
use Rattle.graph_copy.specs.Graph.{Target, to_object, to_lane, to_plain, object_eq, target_of}
use Rattle.object_store.specs.declared.value.Value.{Value}
use Rattle.lanes_arena.specs.declared.id.Id.{Id}
use Rattle.object_store.specs.declared.value.Cells.{Cells}
use Rattle.object_store.specs.Value.{TableId}
use Rattle.object_store.specs.Pairs.{is_live}
use Rattle.object_store.specs.Table.{Contents}
use Rattle.object_store.specs.Heap.{Heap}
use Rattle.std.specs.Option.{option_map_or}
use Rattle.graph_copy.specs.declared.object.Object.TheVariants as object
use Rattle.graph_copy.specs.Paths.{Path}

pub record Seen : Type 0 where
  pub found : List Object
  pub origins : List Origin
  pub lane : Option Origin

-- the path to a source: the empty one to the roots, else that of the object
abbrev pub source_path : List Path → ℕ → Path
source_path paths zero = []
source_path paths (suc n) = slice_index_or paths n []

-- the paths through which the objects were met first, after those that are known
abbrev pub paths_after : List Path → List Origin → List Path
paths_after paths [] = paths
paths_after paths (o ∷ os) = paths_after (paths ++ (o.place ∷ source_path paths o.source) ∷ []) os

abbrev pub paths_of : Seen → List Path
paths_of s = paths_after [] s.origins

abbrev pub origin_path : Seen → Origin → Path
origin_path s o = o.place ∷ source_path (paths_of s) o.source

-- once an edge was met
abbrev pub met : Seen → Origin → Target → Seen
met s o to_plain = s
met s o to_lane = if is_some s.lane then s else record s { lane = Some o }
met s o (to_object x) = if list_any (object_eq x) s.found then s
    else record { found = s.found ++ x ∷ []; origins = s.origins ++ o ∷ []; lane = s.lane }

-- the same where a walk gives up above a limit
abbrev pub met_below : ℕ → Seen → Origin → Target → Seen
met_below limit s o target = if nat_lt limit (length s.found) then s else met s o target

-- once the edges of a source, the first of them at the place, were met
abbrev pub met_all : ℕ → Seen → ℕ → ℕ → List Target → Seen
met_all limit s source place [] = s
met_all limit s source place (target ∷ targets) =
    met_all limit (met_below limit s (record { source = source; place = place }) target) source
    (place + 1) targets

abbrev pub pair_targets : List (Value × Value) → List Target
pair_targets [] = []
pair_targets (pair ∷ pairs) = target_of pair.0 ∷ target_of pair.1 ∷ pair_targets pairs

abbrev pub cell_targets : List (Id Cells) → List Target
cell_targets ids = map (λ id. to_object (object.Cell id)) ids

abbrev pub meta_targets : Option TableId → List Target
meta_targets None = []
meta_targets (Some id) = if nat_eq id.number 0 then [] else to_object (object.Table id) ∷ []

abbrev pub table_targets : Contents → List Target
table_targets table = pair_targets (filter is_live table.pairs) ++ meta_targets table.meta

-- what the edges of an object lead to
abbrev pub object_targets : Heap → Object → List Target
object_targets heap (object.Table id) = option_map_or table_targets
    (slice_get heap.tables id.number) []
object_targets heap (object.Function id) = option_map_or (λ function. cell_targets function.cells)
    (slice_get heap.functions id.number) []
object_targets heap (object.Cell id) = option_map_or (λ cell. target_of cell.content ∷ [])
    (slice_get heap.cells id.number) []

abbrev pub seen_of : Walk → Seen
seen_of walk = record {
  found = walk.found.keys;
  origins = walk.origins.items;
  lane = walk.lane;
}
