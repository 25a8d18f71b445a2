-- A walk that takes the sources in order meets each object, and each lane handle, first through its
-- least path.
use Rattle.std.proofs.Common.{◌≡◌, ◌∙◌, ℕ, suc, zero, ◌+◌, ◌<◌, ◌≤◌, ◌⊎◌, inl, inr, Bool, true, false, if◌then◌else◌, nat_lt, List, [], ◌∷◌, ◌++◌, get_or, slice_get, length, Option, None, Some, is_some, refl, ap, sym, subst, arith, Decides, rules}
use Rattle.std.specs.List.{list_any}
use Rattle.std.proofs.lemmas.Option.{none-some, same_Some, slice_get_within, slice_get-get_or, get_or_from_slice_get}
use Rattle.std.proofs.lemmas.List.{get_or_append_left, get_or_push, length-append}
use Rattle.std.proofs.lemmas.List.Folds.{Any-from_list_any}
use borrow.Author.Tests.{ltb-true, ltb-false}
use Rattle.graph_copy.specs.declared.object.Object.{Object}
use Rattle.graph_copy.specs.declared.walk.Origin.{Origin}
use Rattle.graph_copy.specs.Graph.{to_object, to_lane, to_plain, object_eq, Graph}
use Rattle.graph_copy.specs.Paths.{Path, Leads, IsBefore, IsUpTo}
use Rattle.graph_copy.specs.Numbering.{HasNumber}
use Rattle.graph_copy.proofs.PathLemmas.{before-trans, before-next}
use Rattle.graph_copy.specs.Search.{Seen, source_path, paths_after, paths_of, origin_path, met}

pub object_eq-Decides : (a b : Object) → Decides (object_eq a b) (a ≡ b)
object_eq-Decides a b = search rules

pub split : (a b : ℕ) → (a < b) ⊎ (b ≤ a)
split a b = by (nat_lt a b) refl
  where
    by : (c : Bool) → nat_lt a b ≡ c → (a < b) ⊎ (b ≤ a)
    by true h = inl (ltb-true a b h)
    by false h = inr (ltb-false a b h)

-- lists that grow at their end

slice_left : {A : Type 0} (xs : List A) (y x : A) (i : ℕ) → slice_get xs i ≡ Some x → slice_get (xs ++ y ∷ []) i ≡ Some x
slice_left xs y x i h =
    let within : i < length xs = slice_get_within xs i x h in
    let more : i < length (xs ++ y ∷ []) = simp length-append (omega arith) in
    slice_get-get_or (xs ++ y ∷ []) i x more ∙ ap Some (get_or_append_left xs (y ∷ []) x i within ∙ get_or_from_slice_get xs i x x h)

slice_last : {A : Type 0} (xs : List A) (y : A) → slice_get (xs ++ y ∷ []) (length xs) ≡ Some y
slice_last xs y =
    let more : length xs < length (xs ++ y ∷ []) = simp length-append (omega arith) in
    slice_get-get_or (xs ++ y ∷ []) (length xs) y more ∙ ap Some (get_or_push xs y y (length xs) refl)

record Grown {A : Type 0} (xs : List A) (y x : A) (i : ℕ) : Type 0 where
  pub is : (slice_get xs i ≡ Some x) ⊎ ((i ≡ length xs) × (x ≡ y))

slice_grown : {A : Type 0} (xs : List A) (y x : A) (i : ℕ) → slice_get (xs ++ y ∷ []) i ≡ Some x → Grown xs y x i
slice_grown xs y x i h = record { is = by (split i (length xs)) }
  where
    within : i < length xs + 1
    within = simp length-append at (slice_get_within (xs ++ y ∷ []) i x h)

    by : (i < length xs) ⊎ (length xs ≤ i) → (slice_get xs i ≡ Some x) ⊎ ((i ≡ length xs) × (x ≡ y))
    by (inl lt) = inl (slice_get-get_or xs i x lt ∙ ap Some (sym (get_or_append_left xs (y ∷ []) x i lt) ∙ get_or_from_slice_get (xs ++ y ∷ []) i x x h))
    by (inr ge) =
        let at : i ≡ length xs = omega (arith, ge, within) in
        inr (at, sym (get_or_from_slice_get (xs ++ y ∷ []) i x x h) ∙ get_or_push xs y x i (sym at))

-- the paths of what was met

paths_after-push : (paths : List Path) (os : List Origin) (o : Origin) → paths_after paths (os ++ o ∷ []) ≡ paths_after paths os ++ (o.place ∷ source_path (paths_after paths os) o.source) ∷ []
paths_after-push paths [] o = refl
paths_after-push paths (p ∷ os) o = paths_after-push (paths ++ (p.place ∷ source_path paths p.source) ∷ []) os o

length-paths_after : (paths : List Path) (os : List Origin) → length (paths_after paths os) ≡ length paths + length os
length-paths_after paths [] = omega arith
length-paths_after paths (o ∷ os) =
    let rest = length-paths_after (paths ++ (o.place ∷ source_path paths o.source) ∷ []) os in
    let one : length (paths ++ (o.place ∷ source_path paths o.source) ∷ []) ≡ length paths + 1 = length-append paths ((o.place ∷ source_path paths o.source) ∷ []) in
    omega (arith, rest, one)

-- the path to a source that was met before stays
source_path-push : (paths : List Path) (p : Path) (n : ℕ) → n ≤ length paths → source_path (paths ++ p ∷ []) n ≡ source_path paths n
source_path-push paths p zero h = refl
source_path-push paths p (suc n) h = get_or_append_left paths (p ∷ []) [] n (omega (arith, h))

abbrev pub IsPassed : ℕ → ℕ → ℕ → ℕ → Type 0
IsPassed n m source place = (n < source) ⊎ ((n ≡ source) × (m < place))

pub record MeetsFirst (s : Seen) (x : Object) (path : Path) : Type 0 where
  pub number : ℕ
  pub is_there : slice_get s.found number ≡ Some x
  pub up : IsUpTo (get_or (paths_of s) number []) path

pub record LaneFirst (s : Seen) (path : Path) : Type 0 where
  pub origin : Origin
  pub is_there : s.lane ≡ Some origin
  pub up : IsUpTo (origin_path s origin) path

pub there_at : (found : List Object) (x : Object) → list_any (object_eq x) found ≡ true → HasNumber found x
there_at found x h =
    let a = Any-from_list_any (object_eq x) found h in
    record { number = a.0; is_there = slice_get-get_or found a.0 a.1 a.2 ∙ ap Some (a.3 ∙ sym ((object_eq-Decides x a.1).0 a.4)) }

abbrev pub here : Seen → ℕ → ℕ → Path
here s n m = m ∷ source_path (paths_of s) n

module _ (g : Graph) where
  -- what was met is reached
  pub record Sound (s : Seen) : Type 0 where
    pub same : length s.origins ≡ length s.found
    pub leads : (i : ℕ) (x : Object) → slice_get s.found i ≡ Some x → Leads g (get_or (paths_of s) i []) (to_object x)
    pub lane_known : (o : Origin) → s.lane ≡ Some o → o.source ≤ length s.found
    pub lane_leads : (o : Origin) → s.lane ≡ Some o → Leads g (origin_path s o) to_lane

  -- each edge before the place of the source was met, and each object and lane handle through the
  -- least path so far
  pub record Searched (s : Seen) (source place : ℕ) : Type 0 where
    pub known : source ≤ length s.found
    pub rising : (i j : ℕ) → i < j → j < length s.found → IsBefore (get_or (paths_of s) i []) (get_or (paths_of s) j [])
    pub below : (i : ℕ) → i < length s.found → IsBefore (get_or (paths_of s) i []) (place ∷ source_path (paths_of s) source)
    pub lane_below : (o : Origin) → s.lane ≡ Some o → IsBefore (origin_path s o) (place ∷ source_path (paths_of s) source)
    pub objects : (n m : ℕ) (x : Object) → IsPassed n m source place → Leads g (m ∷ source_path (paths_of s) n) (to_object x) → MeetsFirst s x (m ∷ source_path (paths_of s) n)
    pub lanes : (n m : ℕ) → IsPassed n m source place → Leads g (m ∷ source_path (paths_of s) n) to_lane → LaneFirst s (m ∷ source_path (paths_of s) n)

  passed : (n m source place : ℕ) → IsPassed n m source (suc place) → IsPassed n m source place ⊎ ((n ≡ source) × (m ≡ place))
  passed n m source place (inl lt) = inl (inl lt)
  passed n m source place (inr (at, lt)) = by (split m place)
    where
      by : (m < place) ⊎ (place ≤ m) → IsPassed n m source place ⊎ ((n ≡ source) × (m ≡ place))
      by (inl h) = inl (inr (at, h))
      by (inr h) = let here : m ≡ place = omega (arith, h, lt) in inr (at, here)

  -- one edge further, where what it leads to was met
  pass : (s : Seen) (source place : ℕ) → Searched s source place
      → ((x : Object) → Leads g (place ∷ source_path (paths_of s) source) (to_object x) → MeetsFirst s x (place ∷ source_path (paths_of s) source))
      → (Leads g (place ∷ source_path (paths_of s) source) to_lane → LaneFirst s (place ∷ source_path (paths_of s) source))
      → Searched s source (suc place)
  pass s source place h object lane = record {
    known = h.known;
    rising = h.rising;
    below = λ i lt. before-trans (get_or (paths_of s) i []) (place ∷ source_path (paths_of s) source) (suc place ∷ source_path (paths_of s) source) (h.below i lt) (before-next place (source_path (paths_of s) source));
    lane_below = λ o is. before-trans (origin_path s o) (place ∷ source_path (paths_of s) source) (suc place ∷ source_path (paths_of s) source) (h.lane_below o is) (before-next place (source_path (paths_of s) source));
    objects = λ n m x p leads. by_object n m x (passed n m source place p) leads;
    lanes = λ n m p leads. by_lane n m (passed n m source place p) leads;
  }
    where
      by_object : (n m : ℕ) (x : Object) → IsPassed n m source place ⊎ ((n ≡ source) × (m ≡ place)) → Leads g (here s n m) (to_object x) → MeetsFirst s x (here s n m)
      by_object n m x (inl p) leads = h.objects n m x p leads
      by_object n m x (inr (a, b)) leads =
          let same : here s n m ≡ here s source place = λ j. here s (a j) (b j) in
          subst (MeetsFirst s x) (sym same) (object x (subst (λ (path : Path). Leads g path (to_object x)) same leads))

      by_lane : (n m : ℕ) → IsPassed n m source place ⊎ ((n ≡ source) × (m ≡ place)) → Leads g (here s n m) to_lane → LaneFirst s (here s n m)
      by_lane n m (inl p) leads = h.lanes n m p leads
      by_lane n m (inr (a, b)) leads =
          let same : here s n m ≡ here s source place = λ j. here s (a j) (b j) in
          subst (LaneFirst s) (sym same) (lane (subst (λ (path : Path). Leads g path to_lane) same leads))

  -- an edge to a value without parts
  pub plain_step : (s : Seen) (source place : ℕ) → Searched s source place → Leads g (place ∷ source_path (paths_of s) source) to_plain → Searched s source (suc place)
  plain_step s source place h leads = pass s source place h
      (λ x to. absurd (plain_object x (same_Some _ _ (sym leads ∙ to))))
      (λ to. absurd (plain_lane (same_Some _ _ (sym leads ∙ to))))
    where
      plain_object : (x : Object) → to_plain ≡ to_object x → ⊥
      plain_object x e = cc

      plain_lane : to_plain ≡ to_lane → ⊥
      plain_lane e = cc

  -- an edge to a lane handle
  pub lane_step : (s : Seen) (source place : ℕ) → Searched s source place → Leads g (here s source place) to_lane → Searched (met s (record { source = source; place = place }) to_lane) source (suc place)
  lane_step s source place h leads = by s.lane refl
    where
      no_object : (x : Object) → to_lane ≡ to_object x → ⊥
      no_object x e = cc

      first_lane : s.lane ≡ None → (n m : ℕ) → IsPassed n m source place ⊎ ((n ≡ source) × (m ≡ place)) → Leads g (here s n m) to_lane → LaneFirst (record s { lane = Some (record { source = source; place = place }) }) (here s n m)
      first_lane none n m (inl p) to = let earlier = h.lanes n m p to in absurd (none-some _ (sym none ∙ earlier.is_there))
      first_lane none n m (inr (a, b)) to = record { origin = record { source = source; place = place }; is_there = refl; up = inr (λ j. here s (sym a j) (sym b j)) }

      first_object : (n m : ℕ) (x : Object) → IsPassed n m source place ⊎ ((n ≡ source) × (m ≡ place)) → Leads g (here s n m) (to_object x) → MeetsFirst s x (here s n m)
      first_object n m x (inl p) to = h.objects n m x p to
      first_object n m x (inr (a, b)) to =
          let same : here s n m ≡ here s source place = λ j. here s (a j) (b j) in
          absurd (no_object x (same_Some _ _ (sym leads ∙ subst (λ (path : Path). Leads g path (to_object x)) same to)))

      by : (l : Option Origin) → s.lane ≡ l → Searched (if is_some l then s else record s { lane = Some (record { source = source; place = place }) }) source (suc place)
      by (Some first) is = pass s source place h
          (λ x to. absurd (no_object x (same_Some _ _ (sym leads ∙ to))))
          (λ to. record { origin = first; is_there = is; up = inl (h.lane_below first is) })
      by None is = record {
        known = h.known;
        rising = h.rising;
        below = λ i lt. before-trans (get_or (paths_of s) i []) (here s source place) (here s source (suc place)) (h.below i lt) (before-next place (source_path (paths_of s) source));
        lane_below = λ other at. subst (λ (p : Origin). IsBefore (origin_path s p) (here s source (suc place))) (same_Some _ _ at) (before-next place (source_path (paths_of s) source));
        objects = λ n m x p to. let f = first_object n m x (passed n m source place p) to in record { number = f.number; is_there = f.is_there; up = f.up };
        lanes = λ n m p to. first_lane is n m (passed n m source place p) to;
      }

  pub lane_sound : (s : Seen) (source place : ℕ) → Sound s → source ≤ length s.found → Leads g (here s source place) to_lane → Sound (met s (record { source = source; place = place }) to_lane)
  lane_sound s source place sound known leads = by s.lane
    where
      by : (l : Option Origin) → Sound (if is_some l then s else record s { lane = Some (record { source = source; place = place }) })
      by (Some first) = sound
      by None = record {
        same = sound.same;
        leads = sound.leads;
        lane_known = λ o is. subst (λ (p : Origin). p.source ≤ length s.found) (same_Some _ _ is) known;
        lane_leads = λ o is. subst (λ (p : Origin). Leads g (origin_path s p) to_lane) (same_Some _ _ is) leads;
      }

  object_not_lane : (x : Object) → to_object x ≡ to_lane → ⊥
  object_not_lane x e = cc

  same_object : (x y : Object) → to_object x ≡ to_object y → x ≡ y
  same_object x y e = cc

  -- an edge to an object that was met before
  pub again_step : (s : Seen) (source place : ℕ) (x : Object) → Searched s source place → Leads g (here s source place) (to_object x) → list_any (object_eq x) s.found ≡ true → Searched s source (suc place)
  again_step s source place x h leads there = pass s source place h (λ y to. object y (same_object x y (same_Some _ _ (sym leads ∙ to)))) (λ to. absurd (object_not_lane x (same_Some _ _ (sym leads ∙ to))))
    where
      object : (y : Object) → x ≡ y → MeetsFirst s y (here s source place)
      object y e =
          let at = there_at s.found x there in
          record { number = at.number; is_there = at.is_there ∙ ap Some e; up = inl (h.below at.number (slice_get_within s.found at.number x at.is_there)) }

  abbrev pub grown : Seen → Object → Origin → Seen
  grown s x o = record { found = s.found ++ x ∷ []; origins = s.origins ++ o ∷ []; lane = s.lane }

  -- what a further object leaves as it was
  pub record Keeps (s : Seen) (x : Object) (source place : ℕ) : Type 0 where
    pub left : (i : ℕ) → i < length s.found → get_or (paths_of (grown s x (record { source = source; place = place }))) i [] ≡ get_or (paths_of s) i []
    pub last : get_or (paths_of (grown s x (record { source = source; place = place }))) (length s.found) [] ≡ here s source place
    pub path : (n : ℕ) → n ≤ length s.found → source_path (paths_of (grown s x (record { source = source; place = place }))) n ≡ source_path (paths_of s) n

  pub keeps : (s : Seen) (x : Object) (source place : ℕ) → length s.origins ≡ length s.found → Keeps s x source place
  keeps s x source place same = record {
    left = λ i lt. ap (λ (ps : List Path). get_or ps i []) more ∙ get_or_append_left (paths_of s) (here s source place ∷ []) [] i (omega (arith, size, lt));
    last = ap (λ (ps : List Path). get_or ps (length s.found) []) more ∙ get_or_push (paths_of s) (here s source place) [] (length s.found) size;
    path = λ n le. ap (λ (ps : List Path). source_path ps n) more ∙ source_path-push (paths_of s) (here s source place) n (omega (arith, size, le));
  }
    where
      more : paths_after [] (s.origins ++ (record { source = source; place = place }) ∷ []) ≡ paths_of s ++ here s source place ∷ []
      more = paths_after-push [] s.origins (record { source = source; place = place })

      size : length (paths_of s) ≡ length s.found
      size = let l = length-paths_after [] s.origins in omega (arith, l, same)

  module _ (s : Seen) (source place : ℕ) (x : Object) (sound : Sound s) (h : Searched s source place) (leads : Leads g (here s source place) (to_object x)) where
    abbrev pub t : Seen
    t = grown s x (record { source = source; place = place })

    k : Keeps s x source place
    k = keeps s x source place sound.same

    size : length (s.found ++ x ∷ []) ≡ length s.found + 1
    size = length-append s.found (x ∷ [])

    next : IsBefore (here s source place) (suc place ∷ source_path (paths_of t) source)
    next = subst (λ (p : Path). IsBefore (here s source place) (suc place ∷ p)) (sym (k.path source h.known)) (before-next place (source_path (paths_of s) source))

    rises : (i j : ℕ) → i < j → (j < length s.found) ⊎ (length s.found ≤ j) → j < length s.found + 1 → IsBefore (get_or (paths_of t) i []) (get_or (paths_of t) j [])
    rises i j less (inl lt) within =
        let li : i < length s.found = omega (arith, less, lt) in
        subst (λ (p : Path). IsBefore p (get_or (paths_of t) j [])) (sym (k.left i li)) (subst (IsBefore (get_or (paths_of s) i [])) (sym (k.left j lt)) (h.rising i j less lt))
    rises i j less (inr ge) within =
        let at : j ≡ length s.found = omega (arith, ge, within) in
        let li : i < length s.found = omega (arith, less, at) in
        subst (λ (p : Path). IsBefore p (get_or (paths_of t) j [])) (sym (k.left i li)) (subst (IsBefore (get_or (paths_of s) i [])) (sym (ap (λ n. get_or (paths_of t) n []) at ∙ k.last)) (h.below i li))

    under : (i : ℕ) → (i < length s.found) ⊎ (length s.found ≤ i) → i < length s.found + 1 → IsBefore (get_or (paths_of t) i []) (suc place ∷ source_path (paths_of t) source)
    under i (inl lt) within = subst (λ (p : Path). IsBefore p (suc place ∷ source_path (paths_of t) source)) (sym (k.left i lt)) (before-trans (get_or (paths_of s) i []) (here s source place) (suc place ∷ source_path (paths_of t) source) (h.below i lt) next)
    under i (inr ge) within =
        let at : i ≡ length s.found = omega (arith, ge, within) in
        subst (λ (p : Path). IsBefore p (suc place ∷ source_path (paths_of t) source)) (sym (ap (λ n. get_or (paths_of t) n []) at ∙ k.last)) next

    kept_origin : (o : Origin) → s.lane ≡ Some o → origin_path t o ≡ origin_path s o
    kept_origin o is = ap (λ (p : Path). o.place ∷ p) (k.path o.source (sound.lane_known o is))

    known_source : (n m : ℕ) → IsPassed n m source (suc place) → n ≤ length s.found
    known_source n m (inl lt) = let le = h.known in omega (arith, le, lt)
    known_source n m (inr (at, lt)) = let le = h.known in omega (arith, le, at)

    object : (n m : ℕ) (y : Object) → IsPassed n m source place ⊎ ((n ≡ source) × (m ≡ place)) → Leads g (here s n m) (to_object y) → MeetsFirst t y (here s n m)
    object n m y (inl p) to =
        let f = h.objects n m y p to in
        record { number = f.number; is_there = slice_left s.found x y f.number f.is_there; up = subst (λ (q : Path). IsUpTo q (here s n m)) (sym (k.left f.number (slice_get_within s.found f.number y f.is_there))) f.up }
    object n m y (inr (a, b)) to =
        let at : here s n m ≡ here s source place = λ j. here s (a j) (b j) in
        let same : x ≡ y = same_object x y (same_Some _ _ (sym leads ∙ subst (λ (q : Path). Leads g q (to_object y)) at to)) in
        record { number = length s.found; is_there = slice_last s.found x ∙ ap Some same; up = inr (k.last ∙ sym at) }

    lane : (n m : ℕ) → IsPassed n m source place ⊎ ((n ≡ source) × (m ≡ place)) → Leads g (here s n m) to_lane → LaneFirst t (here s n m)
    lane n m (inl p) to =
        let f = h.lanes n m p to in
        record { origin = f.origin; is_there = f.is_there; up = subst (λ (q : Path). IsUpTo q (here s n m)) (sym (kept_origin f.origin f.is_there)) f.up }
    lane n m (inr (a, b)) to =
        let at : here s n m ≡ here s source place = λ j. here s (a j) (b j) in
        absurd (object_not_lane x (same_Some _ _ (sym leads ∙ subst (λ (q : Path). Leads g q to_lane) at to)))

    same_here : (n m : ℕ) → n ≤ length s.found → here t n m ≡ here s n m
    same_here n m le = ap (λ (p : Path). m ∷ p) (k.path n le)

    -- an edge to an object that is new
    pub new_step : Searched t source (suc place)
    new_step = record {
      known = let le = h.known in omega (arith, le, size);
      rising = λ i j less within. rises i j less (split j (length s.found)) (omega (arith, within, size));
      below = λ i within. under i (split i (length s.found)) (omega (arith, within, size));
      lane_below = λ o is. subst (λ (p : Path). IsBefore p (suc place ∷ source_path (paths_of t) source)) (sym (kept_origin o is)) (before-trans (origin_path s o) (here s source place) (suc place ∷ source_path (paths_of t) source) (h.lane_below o is) next);
      objects = λ n m y p to.
          let e = same_here n m (known_source n m p) in
          subst (MeetsFirst t y) (sym e) (object n m y (passed n m source place p) (subst (λ (q : Path). Leads g q (to_object y)) e to));
      lanes = λ n m p to.
          let e = same_here n m (known_source n m p) in
          subst (LaneFirst t) (sym e) (lane n m (passed n m source place p) (subst (λ (q : Path). Leads g q to_lane) e to));
    }

    -- what was met is still reached
    pub new_sound : Sound t
    new_sound = record {
      same = let a = length-append s.origins ((record { source = source; place = place }) ∷ []) in let b = sound.same in omega (arith, a, b, size);
      leads = λ i y is. leads_at i y (slice_grown s.found x y i is);
      lane_known = λ o is. let le = sound.lane_known o is in omega (arith, le, size);
      lane_leads = λ o is. subst (λ (q : Path). Leads g q to_lane) (sym (kept_origin o is)) (sound.lane_leads o is);
    }
      where
        at_end : (i : ℕ) (y : Object) → i ≡ length s.found → y ≡ x → Leads g (get_or (paths_of t) i []) (to_object y)
        at_end i y at is = subst (λ (q : Path). Leads g q (to_object y)) (sym (ap (λ n. get_or (paths_of t) n []) at ∙ k.last)) (subst (λ z. Leads g (here s source place) (to_object z)) (sym is) leads)

        by : (i : ℕ) (y : Object) → (slice_get s.found i ≡ Some y) ⊎ ((i ≡ length s.found) × (y ≡ x)) → Leads g (get_or (paths_of t) i []) (to_object y)
        by i y (inl is) = subst (λ (q : Path). Leads g q (to_object y)) (sym (k.left i (slice_get_within s.found i y is))) (sound.leads i y is)
        by i y (inr (at, is)) = at_end i y at is

        leads_at : (i : ℕ) (y : Object) → Grown s.found x y i → Leads g (get_or (paths_of t) i []) (to_object y)
        leads_at i y is = by i y is.is
