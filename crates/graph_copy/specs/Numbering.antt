-- The objects that are reachable, numbered by their least paths.
use Rattle.std.specs.Prelude.{◌≡◌, ℕ, ◌<◌, ◌≤◌, List, length, slice_get, Some}
use Rattle.std.specs.List.{IsDistinct}
use Rattle.graph_copy.specs.declared.object.Object.{Object}
use Rattle.graph_copy.specs.Graph.{to_object, to_lane, object_eq, Graph}
use Rattle.graph_copy.specs.Paths.{Path, Leads, IsUpTo}

-- a path to the object, and none to it, or to an object of a later number, is before that one
pub record LeadsFirst (graph : Graph) (nodes : List Object) (number : ℕ) (object : Object)
    : Type 0 where
  pub path : Path
  pub leads : Leads graph path (to_object object)
  pub first : (n : ℕ) (later : Object) (other : Path) → number ≤ n
      → slice_get nodes n ≡ Some later → Leads graph other (to_object later) → IsUpTo path other

pub record HasNumber (nodes : List Object) (object : Object) : Type 0 where
  pub number : ℕ
  pub is_there : slice_get nodes number ≡ Some object

-- the list has each reachable object once, in the order of their least paths
pub record IsNumbering (graph : Graph) (nodes : List Object) : Type 0 where
  pub once : IsDistinct object_eq nodes
  pub all : (path : Path) (object : Object) → Leads graph path (to_object object)
      → HasNumber nodes object
  pub in_order : (number : ℕ) (object : Object) → slice_get nodes number ≡ Some object
      → LeadsFirst graph nodes number object

-- more objects than this are reachable
pub record HasMore (graph : Graph) (limit : ℕ) : Type 0 where
  pub nodes : List Object
  pub once : IsDistinct object_eq nodes
  pub reached : (number : ℕ) (object : Object) → slice_get nodes number ≡ Some object
      → (path : Path) × Leads graph path (to_object object)
  pub more : limit < length nodes

-- of the paths that lead to a lane handle the least
pub record IsLeastLane (graph : Graph) (path : Path) : Type 0 where
  pub leads : Leads graph path to_lane
  pub least : (other : Path) → Leads graph other to_lane → IsUpTo path other

-- no more objects than the limit are reachable, and a lane handle is, first through this path
pub record HasLane (graph : Graph) (limit : ℕ) : Type 0 where
  pub nodes : List Object
  pub numbered : IsNumbering graph nodes
  pub few : length nodes ≤ limit
  pub path : Path
  pub least : IsLeastLane graph path
