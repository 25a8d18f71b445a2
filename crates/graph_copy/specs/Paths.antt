-- Paths in a graph. A path is the list of the places of its edges, counted from 0 and written with
-- the last edge first; the first edge of all leads to a root.
use Rattle.std.specs.Prelude.{◌≡◌, ℕ, ◌<◌, ◌⊎◌, List, [], ◌∷◌, ◌++◌, slice_get, Option, None, Some, codes}
use Rattle.std.specs.Option.{option_map}
use Rattle.graph_copy.specs.Graph.{Target, to_object, to_lane, to_plain, Edge, Graph}

abbrev pub Path : Type 0
Path = List ℕ

-- the edges of what an edge leads to
abbrev pub edges_at : Graph → Target → List Edge
edges_at graph (to_object object) = graph.edges object
edges_at graph to_lane = []
edges_at graph to_plain = []

abbrev pub edges_past : Graph → Option Edge → List Edge
edges_past graph None = []
edges_past graph (Some edge) = edges_at graph edge.target

-- the edges that go on from a path: those to the roots after no edge, else those of the object to
-- which the path leads
abbrev pub onward : Graph → Path → List Edge
onward graph [] = graph.roots
onward graph (place ∷ path) = edges_past graph (slice_get (onward graph path) place)

-- the last edge of a path
abbrev pub edge_of : Graph → Path → Option Edge
edge_of graph [] = None
edge_of graph (place ∷ path) = slice_get (onward graph path) place

-- where a path leads
abbrev pub Leads : Graph → Path → Target → Type 0
Leads graph path target = option_map (λ edge. edge.target) (edge_of graph path) ≡ Some target

abbrev pub text_of : Option Edge → List ℕ
text_of None = []
text_of (Some edge) = edge.text

-- the text of a path: that of its edges, behind a word for the values that were to be copied
abbrev pub path_text : Graph → Path → List ℕ
path_text graph [] = codes "value"
path_text graph (place ∷ path) = path_text graph path
    ++ text_of (slice_get (onward graph path) place)

-- a path is before another where it has fewer edges, or as many and the lesser place at the first
-- difference, roots first: no path is before the empty one; of two others it depends on the paths
-- without their last edges, and where these are one, on the last places
abbrev pub IsBefore : Path → Path → Type 0
IsBefore [] [] = ⊥
IsBefore [] (_ ∷ _) = Unit {0}
IsBefore (_ ∷ _) [] = ⊥
IsBefore (m ∷ path) (n ∷ other) = IsBefore path other ⊎ ((path ≡ other) × (m < n))

abbrev pub IsUpTo : Path → Path → Type 0
IsUpTo path other = IsBefore path other ⊎ (path ≡ other)
