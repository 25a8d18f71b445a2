-- A walk over all sources numbers the objects by their least paths.
use Rattle.std.proofs.Common.{◌≡◌, ◌∙◌, ℕ, suc, zero, ◌<◌, ◌≤◌, ◌⊎◌, inl, inr, true, List, [], ◌∷◌, drop, get_or, slice_get, length, Option, None, Some, refl, ap, sym, subst, arith, true≢false, length-drop, drop-cons}
use Rattle.std.specs.List.{IsDistinct}
use Rattle.std.specs.Option.{option_map}
use Rattle.std.proofs.lemmas.Option.{none-some, same_Some, slice_get_within, slice_get-get_or, get_or_from_slice_get}
use Rattle.std.proofs.lemmas.List.{get_or-drop}
use Rattle.std.proofs.lemmas.Map.Keys.{apart_from_distinct}
use Rattle.graph_copy.specs.declared.object.Object.{Object}
use Rattle.graph_copy.specs.declared.walk.Origin.{Origin}
use Rattle.graph_copy.specs.Graph.{Target, to_object, to_lane, to_plain, object_eq, Edge, Graph}
use Rattle.graph_copy.specs.Paths.{Path, edges_at, edges_past, onward, Leads, IsBefore, IsUpTo}
use Rattle.graph_copy.specs.Numbering.{IsNumbering, HasMore, IsLeastLane}
use Rattle.graph_copy.proofs.PathLemmas.{before-trans, up-trans, up-extend}
use Rattle.graph_copy.specs.Search.{Seen, source_path, paths_of, origin_path}
use Rattle.graph_copy.proofs.SearchLemmas.{object_eq-Decides, split, here, IsPassed, MeetsFirst, LaneFirst, Sound, Searched}

pub record Head {A : Type 0} (xs : List A) (n : ℕ) (x : A) (rest : List A) : Type 0 where
  pub here : slice_get xs n ≡ Some x
  pub after : drop (suc n) xs ≡ rest

tail_of : {A : Type 0} → List A → List A
tail_of [] = []
tail_of (x ∷ xs) = xs

pub drop_head : {A : Type 0} (xs : List A) (n : ℕ) (x : A) (rest : List A) → drop n xs ≡ x ∷ rest → Head xs n x rest
unfolding tail_of
drop_head xs n x rest h = record {
  here = slice_get-get_or xs n x within ∙ ap Some (ap (λ (m : ℕ). get_or xs m x) (omega arith) ∙ sym (get_or-drop n xs 0 x) ∙ ap (λ l. get_or l 0 x) h);
  after = ap tail_of (sym (drop-cons xs n x within) ∙ h);
}
  where
    within : n < length xs
    within = let a = length-drop n xs in let b = ap length h in omega (arith, a, b)

pub found_once : (nodes : List Object) (i j : ℕ) (x : Object) → IsDistinct object_eq nodes → slice_get nodes i ≡ Some x → slice_get nodes j ≡ Some x → i ≡ j
found_once nodes i j x distinct at_i at_j = by (split i j) (split j i)
  where
    alike : (a b : Object) → a ≡ x → b ≡ x → object_eq a b ≡ true
    alike a b e f = (object_eq-Decides a b).1 (e ∙ sym f)

    in_i : i < length nodes
    in_i = slice_get_within nodes i x at_i

    in_j : j < length nodes
    in_j = slice_get_within nodes j x at_j

    is_i : get_or nodes i x ≡ x
    is_i = get_or_from_slice_get nodes i x x at_i

    is_j : get_or nodes j x ≡ x
    is_j = get_or_from_slice_get nodes j x x at_j

    by : (i < j) ⊎ (j ≤ i) → (j < i) ⊎ (i ≤ j) → i ≡ j
    by (inl lt) other = absurd (true≢false (sym (alike (get_or nodes i x) (get_or nodes j x) is_i is_j) ∙ apart_from_distinct object_eq nodes i j x distinct lt in_j))
    by (inr ge) (inl lt) = absurd (true≢false (sym (alike (get_or nodes j x) (get_or nodes i x) is_j is_i) ∙ apart_from_distinct object_eq nodes j i x distinct lt in_i))
    by (inr ge) (inr le) = omega (arith, ge, le)

module _ (g : Graph) where
  -- an edge that leads somewhere is there
  pub record Edged (path : Path) (m : ℕ) (target : Target) : Type 0 where
    pub edge : Edge
    pub is_there : slice_get (onward g path) m ≡ Some edge
    pub leads : edge.target ≡ target

  edged : (path : Path) (m : ℕ) (target : Target) → Leads g (m ∷ path) target → Edged path m target
  edged path m target leads = by (slice_get (onward g path) m) refl leads
    where
      by : (o : Option Edge) → slice_get (onward g path) m ≡ o → option_map (λ (e : Edge). e.target) o ≡ Some target → Edged path m target
      by None is to = absurd (none-some _ to)
      by (Some e) is to = record { edge = e; is_there = is; leads = same_Some _ _ to }

  -- the edges that go on from a path to an object
  pub onward_is : (path : Path) (x : Object) → Leads g path (to_object x) → onward g path ≡ g.edges x
  onward_is [] x leads = absurd (none-some _ leads)
  onward_is (m ∷ path) x leads =
      let e = edged path m (to_object x) leads in
      ap (edges_past g) e.is_there ∙ ap (edges_at g) e.leads

  empty_edges : (m : ℕ) (edges : List Edge) (target : Target) → edges ≡ [] → option_map (λ (e : Edge). e.target) (slice_get edges m) ≡ Some target → ⊥
  empty_edges m edges target none leads = by (slice_get edges m) refl leads
    where
      by : (o : Option Edge) → slice_get edges m ≡ o → option_map (λ (e : Edge). e.target) o ≡ Some target → ⊥
      by None is to = none-some _ to
      by (Some e) is to =
          let lt = slice_get_within edges m e is in
          let size : length edges ≡ 0 = ap length none in
          omega (arith, lt, size)

  -- a path of two edges or more goes through an object
  pub record Through (path : Path) : Type 0 where
    pub object : Object
    pub leads : Leads g path (to_object object)

  through : (m n : ℕ) (path : Path) (target : Target) → Leads g (m ∷ n ∷ path) target → Through (n ∷ path)
  through m n path target leads = by (slice_get (onward g path) n) refl
    where
      none : (t : Target) (e : Edge) → slice_get (onward g path) n ≡ Some e → e.target ≡ t → edges_at g t ≡ [] → ⊥
      none t e is to empty = empty_edges m (onward g (n ∷ path)) target (ap (edges_past g) is ∙ ap (edges_at g) to ∙ empty) leads

      at : (e : Edge) (t : Target) → slice_get (onward g path) n ≡ Some e → e.target ≡ t → Through (n ∷ path)
      at e (to_object x) is to = record { object = x; leads = ap (option_map (λ (f : Edge). f.target)) is ∙ ap Some to }
      at e to_lane is to = absurd (none to_lane e is to refl)
      at e to_plain is to = absurd (none to_plain e is to refl)

      by : (o : Option Edge) → slice_get (onward g path) n ≡ o → Through (n ∷ path)
      by None is = absurd (empty_edges m (onward g (n ∷ path)) target (ap (edges_past g) is) leads)
      by (Some e) is = at e e.target is refl

  -- the next source, where all edges of this one were met
  pub next_source : (s : Seen) (source place : ℕ) → Sound g s → Searched g s source place → length (onward g (source_path (paths_of s) source)) ≤ place → source < length s.found → Searched g s (suc source) 0
  next_source s source place sound h all more = record {
    known = omega (arith, more);
    rising = h.rising;
    below = λ i lt. before-trans (get_or (paths_of s) i []) (here s source place) (here s (suc source) 0) (h.below i lt) (inl (later source more));
    lane_below = λ o is. before-trans (origin_path s o) (here s source place) (here s (suc source) 0) (h.lane_below o is) (inl (later source more));
    objects = λ n m x p to. h.objects n m x (before n m (to_object x) p to) to;
    lanes = λ n m p to. h.lanes n m (before n m to_lane p to) to;
  }
    where
      from_root : (p : Path) (x : Object) → Leads g p (to_object x) → IsBefore [] p
      from_root [] x leads = absurd (none-some _ leads)
      from_root (n ∷ p) x leads = tt

      first : (o : Option Object) → 0 < length s.found → slice_get s.found 0 ≡ o → IsBefore [] (get_or (paths_of s) 0 [])
      first None lt is = absurd (empty s.found lt is)
        where
          empty : (xs : List Object) → 0 < length xs → slice_get xs 0 ≡ None → ⊥
          empty [] lt is = omega (arith, lt)
          empty (x ∷ xs) lt is = none-some _ (sym is ∙ slice_get-get_or (x ∷ xs) 0 x lt)
      first (Some x) lt is = from_root (get_or (paths_of s) 0 []) x (sound.leads 0 x is)

      later : (n : ℕ) → n < length s.found → IsBefore (source_path (paths_of s) n) (source_path (paths_of s) (suc n))
      later zero lt = first (slice_get s.found 0) lt refl
      later (suc n) lt = h.rising n (suc n) (omega arith) lt

      before : (n m : ℕ) (target : Target) → IsPassed n m (suc source) 0 → Leads g (here s n m) target → IsPassed n m source place
      before n m target (inr (at, lt)) to = absurd (omega (arith, lt))
      before n m target (inl lt) to = by (split n source)
        where
          by : (n < source) ⊎ (source ≤ n) → IsPassed n m source place
          by (inl h) = inl h
          by (inr ge) =
              let at : n ≡ source = omega (arith, ge, lt) in
              let e = edged (source_path (paths_of s) n) m target to in
              let within = slice_get_within (onward g (source_path (paths_of s) n)) m e.edge e.is_there in
              let size : length (onward g (source_path (paths_of s) n)) ≡ length (onward g (source_path (paths_of s) source)) = ap (λ k. length (onward g (source_path (paths_of s) k))) at in
              let less : m < place = omega (arith, within, size, all) in
              inr (at, less)

  -- the walk is over: all edges of all sources were met
  module _ (s : Seen) (place : ℕ) (sound : Sound g s) (h : Searched g s (length s.found) place) (all : length (onward g (source_path (paths_of s) (length s.found))) ≤ place) where
    anywhere : (n m : ℕ) (target : Target) → n ≤ length s.found → Leads g (here s n m) target → IsPassed n m (length s.found) place
    anywhere n m target le to = by (split n (length s.found))
      where
        by : (n < length s.found) ⊎ (length s.found ≤ n) → IsPassed n m (length s.found) place
        by (inl lt) = inl lt
        by (inr ge) =
            let at : n ≡ length s.found = omega (arith, ge, le) in
            let e = edged (source_path (paths_of s) n) m target to in
            let within = slice_get_within (onward g (source_path (paths_of s) n)) m e.edge e.is_there in
            let size : length (onward g (source_path (paths_of s) n)) ≡ length (onward g (source_path (paths_of s) (length s.found))) = ap (λ k. length (onward g (source_path (paths_of s) k))) at in
            let less : m < place = omega (arith, within, size, all) in
            inr (at, less)

    -- one edge behind an object that was met
    behind : (p : Path) (x : Object) (m : ℕ) (target : Target) → MeetsFirst s x p → Leads g p (to_object x) → Leads g (m ∷ p) target → (n : ℕ) × (n ≤ length s.found) × Leads g (here s n m) target × IsUpTo (here s n m) (m ∷ p)
    behind p x m target f to leads =
        let within = slice_get_within s.found f.number x f.is_there in
        let same : onward g p ≡ onward g (get_or (paths_of s) f.number []) = onward_is p x to ∙ sym (onward_is (get_or (paths_of s) f.number []) x (sound.leads f.number x f.is_there)) in
        (suc f.number, omega (arith, within), subst (λ (edges : List Edge). option_map (λ (e : Edge). e.target) (slice_get edges m) ≡ Some target) same leads, up-extend m (get_or (paths_of s) f.number []) p f.up)

    reach : (q : Path) (x : Object) → Leads g q (to_object x) → MeetsFirst s x q
    reach [] x leads = absurd (none-some _ leads)
    reach (m ∷ []) x leads = h.objects 0 m x (anywhere 0 m (to_object x) (omega arith) leads) leads
    reach (m ∷ n ∷ q) x leads =
        let y = through m n q (to_object x) leads in
        let b = behind (n ∷ q) y.object m (to_object x) (reach (n ∷ q) y.object y.leads) y.leads leads in
        let f = h.objects b.0 m x (anywhere b.0 m (to_object x) b.1 b.2) b.2 in
        record { number = f.number; is_there = f.is_there; up = up-trans (get_or (paths_of s) f.number []) (here s b.0 m) (m ∷ n ∷ q) f.up b.3 }

    pub lane_reach : (q : Path) → Leads g q to_lane → LaneFirst s q
    lane_reach [] leads = absurd (none-some _ leads)
    lane_reach (m ∷ []) leads = h.lanes 0 m (anywhere 0 m to_lane (omega arith) leads) leads
    lane_reach (m ∷ n ∷ q) leads =
        let y = through m n q to_lane leads in
        let b = behind (n ∷ q) y.object m to_lane (reach (n ∷ q) y.object y.leads) y.leads leads in
        let f = h.lanes b.0 m (anywhere b.0 m to_lane b.1 b.2) b.2 in
        record { origin = f.origin; is_there = f.is_there; up = up-trans (origin_path s f.origin) (here s b.0 m) (m ∷ n ∷ q) f.up b.3 }

    -- the order of the walk is that of the least paths
    pub numbering : IsDistinct object_eq s.found → IsNumbering g s.found
    numbering once = record {
      once = once;
      all = λ path x leads. let f = reach path x leads in record { number = f.number; is_there = f.is_there };
      in_order = λ number x is. record {
        path = get_or (paths_of s) number [];
        leads = sound.leads number x is;
        first = λ n later other le at to.
            let f = reach other later to in
            let one = found_once s.found f.number n later once f.is_there at in
            up-trans (get_or (paths_of s) number []) (get_or (paths_of s) f.number []) other (rises number f.number (omega (arith, le, one)) (slice_get_within s.found f.number later f.is_there)) f.up;
      };
    }
      where
        by : (i j : ℕ) → (i < j) ⊎ (j ≤ i) → i ≤ j → j < length s.found → IsUpTo (get_or (paths_of s) i []) (get_or (paths_of s) j [])
        by i j (inl lt) le within = inl (h.rising i j lt within)
        by i j (inr ge) le within = let same : i ≡ j = omega (arith, ge, le) in inr (ap (λ k. get_or (paths_of s) k []) same)

        rises : (i j : ℕ) → i ≤ j → j < length s.found → IsUpTo (get_or (paths_of s) i []) (get_or (paths_of s) j [])
        rises i j le within = by i j (split i j) le within

    pub least_lane : (o : Origin) → s.lane ≡ Some o → IsLeastLane g (origin_path s o)
    least_lane o is = record {
      leads = sound.lane_leads o is;
      least = λ other leads.
          let f = lane_reach other leads in
          subst (λ (p : Origin). IsUpTo (origin_path s p) other) (same_Some _ _ (sym f.is_there ∙ is)) f.up;
    }

    pub no_lane : s.lane ≡ None → (path : Path) → Leads g path to_lane → ⊥
    no_lane none path leads = let f = lane_reach path leads in none-some _ (sym none ∙ f.is_there)

  pub more_found : (s : Seen) (limit : ℕ) → Sound g s → IsDistinct object_eq s.found → limit < length s.found → HasMore g limit
  more_found s limit sound once more = record {
    nodes = s.found;
    once = once;
    reached = λ number x is. (get_or (paths_of s) number [], sound.leads number x is);
    more = more;
  }
