-- What a walk through a graph knows at its end.
use Rattle.std.specs.Prelude.{◌≡◌, ℕ, ◌<◌, ◌≤◌, length, None, Some}
use Rattle.graph_copy.specs.declared.walk.Origin.{Origin}
use Rattle.graph_copy.specs.Graph.{to_lane, Graph}
use Rattle.graph_copy.specs.Paths.{Path, Leads}
use Rattle.graph_copy.specs.Numbering.{IsNumbering, HasMore, IsLeastLane}
use Rattle.graph_copy.specs.Search.{Seen, origin_path}

pub record IsWalked (graph : Graph) (limit : ℕ) (seen : Seen) : Type 0 where
  pub more : limit < length seen.found → HasMore graph limit
  pub numbering : length seen.found ≤ limit → IsNumbering graph seen.found
  pub no_lane : length seen.found ≤ limit → seen.lane ≡ None → (path : Path)
      → Leads graph path to_lane → ⊥
  pub lane : length seen.found ≤ limit → (origin : Origin) → seen.lane ≡ Some origin
      → IsLeastLane graph (origin_path seen origin)
