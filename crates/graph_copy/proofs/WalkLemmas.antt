-- A walk keeps what was met in order, one edge and one source after the other.
use Rattle.std.proofs.Common.{◌≡◌, ◌∙◌, ℕ, suc, ◌+◌, ◌<◌, ◌≤◌, ◌⊎◌, inl, inr, Bool, true, false, if◌then◌else◌, nat_lt, nat_eq, drop-cons, append_assoc, List, [], ◌∷◌, ◌++◌, map, filter, drop, slice_get, length, Option, None, Some, is_some, codes, refl, ap, sym, subst, arith}
use borrow.Author.Tests.{ltb-false, ltb-true}
use Rattle.std.specs.List.{list_any, IsDistinct}
use Rattle.std.specs.Option.{option_map_or}
use Rattle.std.proofs.lemmas.List.{map-append}
use Rattle.std.proofs.Math.ListN.{length-map}
use Rattle.std.proofs.lemmas.Option.{slice_get_within, get_or_from_slice_get}
use Rattle.std.proofs.lemmas.Option.{none-some, slice_get-map}
use Rattle.graph_copy.specs.declared.object.Object.{Object}
use Rattle.graph_copy.specs.Graph.{Target, to_object, to_lane, to_plain, object_eq, target_of, Edge, Graph, graph_of, root_edges, edges_of, pair_edges, meta_edges, cell_edges, table_edges, function_edges, content_edges}
use Rattle.graph_copy.specs.Paths.{Path, onward, Leads}
use Rattle.object_store.specs.declared.value.Value.{Value}
use Rattle.object_store.specs.declared.state.Function.{Function}
use Rattle.object_store.specs.declared.state.Cell.{Cell}
use Rattle.object_store.specs.declared.value.Cells.{Cells}
use Rattle.lanes_arena.specs.declared.id.Id.{Id}
use Rattle.object_store.specs.Value.{TableId}
use Rattle.object_store.specs.Pairs.{is_live}
use Rattle.object_store.specs.Table.{Contents}
use Rattle.object_store.specs.Heap.{Heap}
use Rattle.graph_copy.specs.declared.object.Object.TheVariants as object
use Rattle.graph_copy.specs.Walked.{IsWalked}
use Rattle.graph_copy.specs.Search.{pair_targets, cell_targets, meta_targets, table_targets, object_targets, Seen, source_path, paths_of, met, met_below, met_all}
use Rattle.graph_copy.proofs.SearchLemmas.{here, Sound, Searched, keeps, grown, plain_step, lane_step, lane_sound, again_step, new_step, new_sound}
use Rattle.graph_copy.proofs.NumberingLemmas.{drop_head, next_source, onward_is, numbering, least_lane, no_lane, more_found}

abbrev pub nothing : Seen
nothing = record { found = []; origins = []; lane = None }

abbrev pub target : Edge → Target
target edge = edge.target

module _ (g : Graph) (limit : ℕ) where
  pub record Walks (s : Seen) (source place : ℕ) : Type 0 where
    pub sound : Sound g s
    pub searched : length s.found ≤ limit → Searched g s source place

  pub record Stepped (s t : Seen) (source place : ℕ) : Type 0 where
    pub walks : Walks t source (suc place)
    pub path : source_path (paths_of t) source ≡ source_path (paths_of s) source

  met_step : (s : Seen) (source place : ℕ) (t : Target) → Walks s source place → Leads g (here s source place) t → Stepped s (met_below limit s (record { source = source; place = place }) t) source place
  met_step s source place t w leads = by (nat_lt limit (length s.found)) refl
    where
      object : (x : Object) (b : Bool) → list_any (object_eq x) s.found ≡ b → Sound g s → Searched g s source place → Leads g (here s source place) (to_object x) → Stepped s (if b then s else grown g s x (record { source = source; place = place })) source place
      object x true there sound h to = record { walks = record { sound = sound; searched = λ le. again_step g s source place x h to there }; path = refl }
      object x false there sound h to = record { walks = record { sound = new_sound g s source place x sound h to; searched = λ le. new_step g s source place x sound h to }; path = (keeps g s x source place sound.same).path source h.known }

      lane : (b : Bool) → is_some s.lane ≡ b → Sound g (if b then s else record s { lane = Some (record { source = source; place = place }) }) → Searched g (if b then s else record s { lane = Some (record { source = source; place = place }) }) source (suc place) → Stepped s (if b then s else record s { lane = Some (record { source = source; place = place }) }) source place
      lane true is sound h = record { walks = record { sound = sound; searched = λ le. h }; path = refl }
      lane false is sound h = record { walks = record { sound = sound; searched = λ le. h }; path = refl }

      kind : (u : Target) → Sound g s → Searched g s source place → Leads g (here s source place) u → Stepped s (met s (record { source = source; place = place }) u) source place
      kind to_plain sound h to = record { walks = record { sound = sound; searched = λ le. plain_step g s source place h to }; path = refl }
      kind to_lane sound h to = lane (is_some s.lane) refl (lane_sound g s source place sound h.known to) (lane_step g s source place h to)
      kind (to_object x) sound h to = object x (list_any (object_eq x) s.found) refl sound h to

      by : (b : Bool) → nat_lt limit (length s.found) ≡ b → Stepped s (if b then s else met s (record { source = source; place = place }) t) source place
      by true over = record { walks = record { sound = w.sound; searched = λ le. absurd (let lt = ltb-true limit (length s.found) over in omega (arith, le, lt)) }; path = refl }
      by false within = kind t w.sound (w.searched (ltb-false limit (length s.found) within)) leads

  pub record Over (s t : Seen) (source place : ℕ) : Type 0 where
    pub walks : Walks t source place
    pub path : source_path (paths_of t) source ≡ source_path (paths_of s) source

  pub met_all_over : (targets : List Target) (s : Seen) (source place : ℕ) (path : Path) → path ≡ source_path (paths_of s) source → drop place (map target (onward g path)) ≡ targets → Walks s source place → Over s (met_all limit s source place targets) source (place + length targets)
  met_all_over [] s source place path same rest w = record { walks = subst (Walks s source) (omega arith) w; path = refl }
  met_all_over (t ∷ targets) s source place path same rest w =
      let head = drop_head (map target (onward g path)) place t targets rest in
      let leads : Leads g (here s source place) t = sym (slice_get-map target (onward g (source_path (paths_of s) source)) place) ∙ ap (λ (p : Path). slice_get (map target (onward g p)) place) (sym same) ∙ head.here in
      let step = met_step s source place t w leads in
      let over = met_all_over targets (met_below limit s (record { source = source; place = place }) t) source (suc place) path (same ∙ sym step.path) head.after step.walks in
      record { walks = subst (Walks (met_all limit s source place (t ∷ targets)) source) (omega arith) (subst (λ n. Walks (met_all limit (met_below limit s (record { source = source; place = place }) t) source n targets) source (suc place + length targets)) (omega arith) over.walks); path = subst (λ n. source_path (paths_of (met_all limit (met_below limit s (record { source = source; place = place }) t) source n targets)) source ≡ source_path (paths_of s) source) (omega arith) (over.path ∙ step.path) }

-- edge lists as lists of targets

targets-pairs : (texts : List (List ℕ)) (n : ℕ) (pairs : List (Value × Value)) → map target (pair_edges texts n pairs) ≡ pair_targets pairs
targets-pairs texts n [] = refl
targets-pairs texts n (p ∷ ps) = ap (λ l. target_of p.0 ∷ target_of p.1 ∷ l) (targets-pairs texts (n + 1) ps)

targets-meta : (meta : Option TableId) → map target (meta_edges meta) ≡ meta_targets meta
targets-meta None = refl
targets-meta (Some id) = by (nat_eq id.number 0)
  where
    by : (b : Bool) → map target (if b then [] else record { text = codes "<metatable>"; target = to_object (object.Table id) } ∷ []) ≡ (if b then [] else to_object (object.Table id) ∷ [])
    by true = refl
    by false = refl

targets-cells : (n : ℕ) (ids : List (Id Cells)) → map target (cell_edges n ids) ≡ cell_targets ids
targets-cells n [] = refl
targets-cells n (id ∷ ids) = ap (λ l. to_object (object.Cell id) ∷ l) (targets-cells (n + 1) ids)

targets-roots : (roots : List Value) → map target (root_edges roots) ≡ map target_of roots
targets-roots [] = refl
targets-roots (r ∷ rs) = ap (λ l. target_of r ∷ l) (targets-roots rs)

targets-object : (heap : Heap) (texts : List (List ℕ)) (x : Object) → map target (edges_of heap texts x) ≡ object_targets heap x
targets-object heap texts (object.Table id) = by (slice_get heap.tables id.number)
  where
    by : (o : Option Contents) → map target (table_edges texts o) ≡ option_map_or table_targets o []
    by None = refl
    by (Some t) = map-append target (pair_edges texts 1 (filter is_live t.pairs)) (meta_edges t.meta) ∙ (λ j. targets-pairs texts 1 (filter is_live t.pairs) j ++ targets-meta t.meta j)
targets-object heap texts (object.Function id) = by (slice_get heap.functions id.number)
  where
    by : (o : Option Function) → map target (function_edges o) ≡ option_map_or (λ function. cell_targets function.cells) o []
    by None = refl
    by (Some f) = targets-cells 1 f.cells
targets-object heap texts (object.Cell id) = by (slice_get heap.cells id.number)
  where
    by : (o : Option Cell) → map target (content_edges o) ≡ option_map_or (λ cell. target_of cell.content ∷ []) o []
    by None = refl
    by (Some c) = refl

-- a table's pairs, one after the other

met_all-append : (limit : ℕ) (xs ys : List Target) (s : Seen) (source place : ℕ) → met_all limit s source place (xs ++ ys) ≡ met_all limit (met_all limit s source place xs) source (place + length xs) ys
met_all-append limit [] ys s source place = ap (λ n. met_all limit s source n ys) (omega arith)
met_all-append limit (x ∷ xs) ys s source place =
    met_all-append limit xs ys (met_below limit s (record { source = source; place = place }) x) source (place + 1)
    ∙ ap (λ n. met_all limit (met_all limit (met_below limit s (record { source = source; place = place }) x) source (place + 1) xs) source n ys) (omega arith)

pair_split : (p : Value × Value) (ps : List (Value × Value)) → pair_targets (filter is_live (p ∷ ps)) ≡ pair_targets (filter is_live (p ∷ [])) ++ pair_targets (filter is_live ps)
pair_split p ps = by (is_live p)
  where
    by : (b : Bool) → pair_targets (if b then p ∷ filter is_live ps else filter is_live ps) ≡ pair_targets (if b then p ∷ [] else []) ++ pair_targets (filter is_live ps)
    by true = refl
    by false = refl

pub pair_few : (p : Value × Value) → length (pair_targets (filter is_live (p ∷ []))) ≤ 2
pair_few p = by (is_live p)
  where
    by : (b : Bool) → length (pair_targets (if b then p ∷ [] else [])) ≤ 2
    by true = omega arith
    by false = omega arith

pub table_step : (limit : ℕ) (s t whole : Seen) (source place next i : ℕ) (pairs : List (Value × Value)) (p : Value × Value) (meta : List Target) → slice_get pairs i ≡ Some p
    → t ≡ met_all limit s source place (pair_targets (filter is_live (p ∷ []))) → next ≡ place + length (pair_targets (filter is_live (p ∷ [])))
    → met_all limit s source place (pair_targets (filter is_live (drop i pairs)) ++ meta) ≡ whole
    → met_all limit t source next (pair_targets (filter is_live (drop (i + 1) pairs)) ++ meta) ≡ whole
table_step limit s t whole source place next i pairs p meta at is place_is h =
    (λ j. met_all limit (is j) source (place_is j) (pair_targets (filter is_live (drop (more j) pairs)) ++ meta))
    ∙ sym (met_all-append limit first (pair_targets (filter is_live (drop (suc i) pairs)) ++ meta) s source place)
    ∙ ap (met_all limit s source place) (sym (append_assoc first (pair_targets (filter is_live (drop (suc i) pairs))) meta) ∙ ap (λ l. l ++ meta) (sym (pair_split p (drop (suc i) pairs)) ∙ ap (λ l. pair_targets (filter is_live l)) (sym head)))
    ∙ h
  where
    first : List Target
    first = pair_targets (filter is_live (p ∷ []))

    more : i + 1 ≡ suc i
    more = omega arith

    within : i < length pairs
    within = slice_get_within pairs i p at

    head : drop i pairs ≡ p ∷ drop (suc i) pairs
    head = drop-cons pairs i p within ∙ ap (λ q. q ∷ drop (suc i) pairs) (get_or_from_slice_get pairs i p p at)

-- the walk over all sources

module _ (limit : ℕ) (heap : Heap) (texts : List (List ℕ)) (roots : List Value) where
  abbrev pub graph : Graph
  graph = graph_of heap texts roots

  abbrev pub Past : Seen → ℕ → Type 0
  Past s source = Walks graph limit s source (length (onward graph (source_path (paths_of s) source)))

  none_yet : Walks graph limit nothing 0 0
  none_yet = record {
    sound = record {
      same = refl;
      leads = λ i x is. absurd (let lt = slice_get_within [] i x is in omega (arith, lt));
      lane_known = λ o is. absurd (none-some _ is);
      lane_leads = λ o is. absurd (none-some _ is);
    };
    searched = λ le. record {
      known = omega arith;
      rising = λ i j less lt. absurd (omega (arith, lt));
      below = λ i lt. absurd (omega (arith, lt));
      lane_below = λ o is. absurd (none-some _ is);
      objects = λ n m x p to. absurd (never n m p);
      lanes = λ n m p to. absurd (never n m p);
    };
  }
    where
      never : (n m : ℕ) → (n < 0) ⊎ ((n ≡ 0) × (m < 0)) → ⊥
      never n m (inl lt) = omega (arith, lt)
      never n m (inr (at, lt)) = omega (arith, lt)

  pub roots_walk : (s : Seen) → s ≡ met_all limit nothing 0 0 (map target_of roots) → Past s 0
  roots_walk s is =
      let over = met_all_over graph limit (map target_of roots) nothing 0 0 [] refl (targets-roots roots) none_yet in
      subst (λ (t : Seen). Past t 0) (sym is) (subst (Walks graph limit (met_all limit nothing 0 0 (map target_of roots)) 0) size over.walks)
    where
      size : 0 + length (map target_of roots) ≡ length (onward graph [])
      size = let a = length-map roots target_of in let b = length-map roots (λ root. let e : Edge = record { text = []; target = target_of root } in e) in omega (arith, a, b)

  pub object_walk : (s t : Seen) (next : ℕ) (x : Object) → Past s next → next < length s.found → length s.found ≤ limit → slice_get s.found next ≡ Some x → t ≡ met_all limit s (suc next) 0 (object_targets heap x) → Past t (suc next)
  object_walk s t next x w more few at is = subst (λ (u : Seen). Past u (suc next)) (sym is) (subst (Walks graph limit (met_all limit s (suc next) 0 (object_targets heap x)) (suc next)) size over.walks)
    where
      edges : onward graph (source_path (paths_of s) (suc next)) ≡ edges_of heap texts x
      edges = onward_is graph (source_path (paths_of s) (suc next)) x (w.sound.leads next x at)

      start : Walks graph limit s (suc next) 0
      start = record { sound = w.sound; searched = λ le. next_source graph s next (length (onward graph (source_path (paths_of s) next))) w.sound (w.searched few) (omega arith) more }

      over : Over graph limit s (met_all limit s (suc next) 0 (object_targets heap x)) (suc next) (0 + length (object_targets heap x))
      over = met_all_over graph limit (object_targets heap x) s (suc next) 0 (source_path (paths_of s) (suc next)) refl (ap (map target) edges ∙ targets-object heap texts x) start

      size : 0 + length (object_targets heap x) ≡ length (onward graph (source_path (paths_of (met_all limit s (suc next) 0 (object_targets heap x))) (suc next)))
      size =
          let a = ap length (targets-object heap texts x) in
          let b = length-map (edges_of heap texts x) target in
          let c = ap length edges in
          let d = ap (λ (p : Path). length (onward graph p)) over.path in
          omega (arith, a, b, c, d)

  pub walk_over : (s : Seen) (next : ℕ) → Past s next → IsDistinct object_eq s.found → (length s.found ≤ limit → length s.found ≤ next) → IsWalked graph limit s
  walk_over s next w once all = record {
    more = λ lt. more_found graph s limit w.sound once lt;
    numbering = λ le. numbering graph s (length (onward graph (source_path (paths_of s) (length s.found)))) w.sound (at le) (within le) once;
    no_lane = λ le. no_lane graph s (length (onward graph (source_path (paths_of s) (length s.found)))) w.sound (at le) (within le);
    lane = λ le. least_lane graph s (length (onward graph (source_path (paths_of s) (length s.found)))) w.sound (at le) (within le);
  }
    where
      same : length s.found ≤ limit → next ≡ length s.found
      same le = let h = w.searched le in let a = h.known in let b = all le in omega (arith, a, b)

      at : (le : length s.found ≤ limit) → Searched graph s (length s.found) (length (onward graph (source_path (paths_of s) (length s.found))))
      at le = subst (λ n. Searched graph s n (length (onward graph (source_path (paths_of s) n)))) (same le) (w.searched le)

      within : (le : length s.found ≤ limit) → length (onward graph (source_path (paths_of s) (length s.found))) ≤ length (onward graph (source_path (paths_of s) (length s.found)))
      within le = omega arith
