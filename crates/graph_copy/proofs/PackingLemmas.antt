-- The nodes of a parcel, one after the other.
use Rattle.std.proofs.Common.{◌≡◌, ◌∙◌, ℕ, suc, zero, ◌+◌, ◌<◌, ◌≤◌, Bool, true, false, cond, not, if◌then◌else◌, nat_lt, List, [], ◌∷◌, ◌++◌, map, filter, take, get_or, slice_get, length, position, Option, None, Some, is_some, Result, Ok, Err, IfOk, refl, ap, sym, arith, unwrap_or, true≢false, append_assoc, append-nil, length-append}
use borrow.Author.Tests.{ltb-false}
use Rattle.std.specs.List.{position_or_len}
use Rattle.std.proofs.lemmas.Option.{none-some, slice_get_within, slice_get-get_or, get_or_from_slice_get, unwrap_or-slice_get}
use Rattle.std.proofs.lemmas.List.{map-append}
use Rattle.lanes_arena.specs.declared.code.Mark.{Mark}
use Rattle.object_store.specs.declared.value.Value.{Value}
use Rattle.object_store.specs.Value.{TableId}
use Rattle.object_store.specs.Pairs.{is_live}
use Rattle.object_store.specs.Heap.{Heap}
use Rattle.parcel.specs.declared.leaf.Leaf.{Leaf}
use Rattle.metatable_ids.specs.Registry.{Registry, mark_of, with_pair, own_mark, first_pairs}
use Rattle.graph_copy.specs.declared.object.Object.{Object}
use Rattle.graph_copy.specs.declared.walk.Origin.{Origin}
use Rattle.graph_copy.specs.Graph.{Graph, to_lane}
use Rattle.graph_copy.specs.Paths.{Path, Leads}
use Rattle.graph_copy.specs.Numbering.{HasLane}
use Rattle.graph_copy.specs.Walked.{IsWalked}
use Rattle.graph_copy.specs.Search.{Seen, origin_path}
use Rattle.graph_copy.specs.Packing.{leaves_of, meta_of, with_meta, marked}

position_or_len-le : {A : Type 0} (t : A → Bool) (xs : List A) → position_or_len t xs ≤ length xs
position_or_len-le t [] = omega arith
position_or_len-le t (x ∷ xs) = by (t x) (position_or_len-le t xs)
  where
    by : (b : Bool) → position_or_len t xs ≤ length xs → cond (not b) (1 + position_or_len t xs) 0 ≤ suc (length xs)
    by true h = omega arith
    by false h = omega (arith, h)

-- what isn't there has the length for its place
pub position-none : {A : Type 0} (t : A → Bool) (xs : List A) → None ≡ position t xs → length xs ≡ position_or_len t xs
position-none t xs none = by (nat_lt (position_or_len t xs) (length xs)) refl none
  where
    by : (b : Bool) → nat_lt (position_or_len t xs) (length xs) ≡ b → None ≡ cond b (Some (position_or_len t xs)) None → length xs ≡ position_or_len t xs
    by true e h = absurd (none-some _ h)
    by false e h = let ge = ltb-false (position_or_len t xs) (length xs) e in let le = position_or_len-le t xs in omega (arith, ge, le)

pub if_ok_same : {A E : Type 0} (r : Result A E) (x y : A) → IfOk r (λ a. a ≡ x) → x ≡ y → IfOk r (λ a. a ≡ y)
if_ok_same (Ok a) x y h e = h ∙ e
if_ok_same (Err f) x y h e = tt

pub no_text : (texts : List (List ℕ)) (n : ℕ) → None ≡ slice_get texts n → [] ≡ get_or texts n []
no_text texts n none = ap (λ o. unwrap_or o []) none ∙ unwrap_or-slice_get texts n []

take-next : {A : Type 0} (xs : List A) (i : ℕ) (x : A) → slice_get xs i ≡ Some x → take (i + 1) xs ≡ take i xs ++ x ∷ []
take-next [] i x h = absurd (let lt = slice_get_within [] i x h in omega (arith, lt))
take-next (y ∷ ys) zero x h = ap (λ z. z ∷ []) (get_or_from_slice_get (y ∷ ys) 0 x x h)
take-next (y ∷ ys) (suc i) x h =
    let within : i < length ys = let lt = slice_get_within (y ∷ ys) (suc i) x h in omega (arith, lt) in
    let at : slice_get ys i ≡ Some x = slice_get-get_or ys i x within ∙ ap Some (get_or_from_slice_get (y ∷ ys) (suc i) x x h) in
    let more : suc i + 1 ≡ suc (i + 1) = omega arith in
    ap (λ (n : ℕ). take n (y ∷ ys)) more ∙ ap (λ l. y ∷ l) (take-next ys i x at)

filter-append : {A : Type 0} (t : A → Bool) (xs ys : List A) → filter t (xs ++ ys) ≡ filter t xs ++ filter t ys
filter-append t [] ys = refl
filter-append {A} t (x ∷ xs) ys = by (t x) (filter-append t xs ys)
  where
    by : (b : Bool) → filter t (xs ++ ys) ≡ filter t xs ++ filter t ys → (if b then x ∷ filter t (xs ++ ys) else filter t (xs ++ ys)) ≡ (if b then x ∷ filter t xs else filter t xs) ++ filter t ys
    by true h = ap (λ l. x ∷ l) h
    by false h = h

pub map_next : {A B : Type 0} (f : A → B) (xs : List A) (i : ℕ) (d : A) → i < length xs → map f (take (i + 1) xs) ≡ map f (take i xs) ++ f (get_or xs i d) ∷ []
map_next f xs i d lt = ap (map f) (take-next xs i (get_or xs i d) (slice_get-get_or xs i d lt)) ∙ map-append f (take i xs) (get_or xs i d ∷ [])

pub pairs-next : (texts : List (List ℕ)) (nodes : List Object) (pairs : List (Value × Value)) (i : ℕ) (p : Value × Value) (old new : List (Leaf × Leaf)) → slice_get pairs i ≡ Some p
    → old ≡ map (leaves_of texts nodes) (filter is_live (take i pairs))
    → new ≡ old ++ map (leaves_of texts nodes) (filter is_live (p ∷ []))
    → new ≡ map (leaves_of texts nodes) (filter is_live (take (i + 1) pairs))
pairs-next texts nodes pairs i p old new at h is =
    is ∙ ap (λ l. l ++ map (leaves_of texts nodes) (filter is_live (p ∷ []))) h
    ∙ sym (map-append (leaves_of texts nodes) (filter is_live (take i pairs)) (filter is_live (p ∷ [])))
    ∙ ap (map (leaves_of texts nodes)) (sym (filter-append is_live (take i pairs) (p ∷ [])) ∙ ap (filter is_live) (sym (take-next pairs i p at)))

-- marks

marked-push : (heap : Heap) (xs : List Object) (x : Object) (registry : Registry) → marked heap (xs ++ x ∷ []) registry ≡ with_meta (marked heap xs registry) (meta_of heap x)
marked-push heap [] x registry = refl
marked-push heap (y ∷ ys) x registry = marked-push heap ys x (with_meta registry (meta_of heap y))

pub marked-next : (heap : Heap) (xs : List Object) (i : ℕ) (x : Object) (registry : Registry) → slice_get xs i ≡ Some x → marked heap (take (i + 1) xs) registry ≡ with_meta (marked heap (take i xs) registry) (meta_of heap x)
marked-next heap xs i x registry at = ap (λ l. marked heap l registry) (take-next xs i x at) ∙ marked-push heap (take i xs) x registry

pub marked_next : (heap : Heap) (xs : List Object) (i : ℕ) (d : Object) (registry : Registry) → i < length xs → marked heap (take (i + 1) xs) registry ≡ with_meta (marked heap (take i xs) registry) (meta_of heap (get_or xs i d))
marked_next heap xs i d registry lt = marked-next heap xs i (get_or xs i d) registry (slice_get-get_or xs i d lt)

record Extends (old new : Registry) : Type 0 where
  pub more : List (Mark × ℕ)
  pub pairs : new.pairs ≡ old.pairs ++ more
  pub state : new.state ≡ old.state

extends-trans : (a b c : Registry) → Extends a b → Extends b c → Extends a c
extends-trans a b c h k = record { more = h.more ++ k.more; pairs = k.pairs ∙ ap (λ l. l ++ k.more) h.pairs ∙ append_assoc a.pairs h.more k.more; state = k.state ∙ h.state }

same_registry : (a : Registry) → Extends a a
same_registry a = record { more = []; pairs = sym (append-nil a.pairs); state = refl }

meta_extends : (r : Registry) (meta : Option TableId) → Extends r (with_meta r meta)
meta_extends r None = same_registry r
meta_extends r (Some id) = by (is_some (mark_of r id.number))
  where
    by : (b : Bool) → Extends r (if b then r else with_pair r (own_mark r id.number) id.number)
    by true = same_registry r
    by false = record { more = (own_mark r id.number, id.number) ∷ []; pairs = refl; state = refl }

marked_extends : (heap : Heap) (xs : List Object) (r : Registry) → Extends r (marked heap xs r)
marked_extends heap [] r = same_registry r
marked_extends heap (x ∷ xs) r = extends-trans r (with_meta r (meta_of heap x)) (marked heap xs (with_meta r (meta_of heap x))) (meta_extends r (meta_of heap x)) (marked_extends heap xs (with_meta r (meta_of heap x)))

take-whole : {A : Type 0} (xs ys : List A) → take (length xs) (xs ++ ys) ≡ xs
take-whole [] ys = refl
take-whole (x ∷ xs) ys = ap (λ l. x ∷ l) (take-whole xs ys)

-- marking adds at the end, so the first pairs are those of before
pub unmarked : (heap : Heap) (xs : List Object) (r : Registry) (n : ℕ) → n ≡ length r.pairs → first_pairs (marked heap xs r) n ≡ r
unmarked heap xs r n is =
    let e = marked_extends heap xs r in
    λ j. record { state = e.state j; pairs = (ap (λ l. take n l) e.pairs ∙ ap (λ m. take m (r.pairs ++ e.more)) is ∙ take-whole r.pairs e.more) j }

pub within : (r : Registry) (heap : Heap) (xs : List Object) (n : ℕ) → n ≡ length r.pairs → n ≤ length (marked heap xs r).pairs
within r heap xs n is =
    let e = marked_extends heap xs r in
    let a = ap length e.pairs in
    let b = length-append r.pairs e.more in
    omega (arith, is, a, b)

-- a walk that found a lane handle

pub lane_from : (g : Graph) (limit : ℕ) (s : Seen) → IsWalked g limit s → length s.found ≤ limit → is_some s.lane ≡ true → HasLane g limit
lane_from g limit s walked few some = by s.lane refl some
  where
    by : (o : Option Origin) → s.lane ≡ o → is_some o ≡ true → HasLane g limit
    by None is some = absurd (true≢false (sym some))
    by (Some origin) is some = record { nodes = s.found; numbered = walked.numbering few; few = few; path = origin_path s origin; least = walked.lane few origin is }

pub no_lane_from : (g : Graph) (limit : ℕ) (s : Seen) → IsWalked g limit s → length s.found ≤ limit → is_some s.lane ≡ false → (path : Path) → Leads g path to_lane → ⊥
no_lane_from g limit s walked few none = by s.lane refl none
  where
    by : (o : Option Origin) → s.lane ≡ o → is_some o ≡ false → (path : Path) → Leads g path to_lane → ⊥
    by None is none = walked.no_lane few is
    by (Some origin) is none = absurd (true≢false none)
