-- Lists of pairs.
use Rattle.std.proofs.Common.{◌≡◌, ◌∙◌, ℕ, suc, ◌+◌, ◌-◌, ◌<◌, ◌≤◌, Bool, true, false, cond, not, if◌then◌else◌, nat_lt, List, [], ◌∷◌, ◌++◌, filter, length, drop, get_or, slice_get, lt-ltb, le-ltb, position, Option, None, Some, is_some, refl, ap, sym, arith, true≢false, length-append}
use Rattle.std.specs.List.{count_by, IsDistinct, position_or_len}
use Rattle.std.specs.Map.{lookup, set_value, keys_of, values_of}
use Rattle.std.specs.Option.{unwrap_or, option_map}
use Rattle.std.proofs.lemmas.List.Sums.{sum_by-cons, sum_by_push}
use Rattle.std.proofs.lemmas.List.Elements.{filter-append}
use Rattle.std.proofs.lemmas.Map.{length-set_value}
use Rattle.std.proofs.lemmas.Map.Entries.{sum_by-set_value, lookup-filter-values, option_filter}
use Rattle.std.proofs.lemmas.Option.{none-some, slice_get_within, get_or_from_slice_get}
use Rattle.std.proofs.Math.Seq.{drop-cons}
use Rattle.indexmap.specs.IndexMap.{insert_entry}
use Rattle.object_store.specs.declared.value.Value.{Value}
use Rattle.object_store.specs.declared.value.Value.TheVariants.{Nil, False, True, Int, Str, Table, Lib, Linda, Light, Func, Lane}
use Rattle.object_store.specs.Value.{value_eq, is_nil}
use Rattle.object_store.specs.Pairs.{get_pair, set_pair, next_pair, has_pair, purged, is_live, live_count, dead_count, first_live, rest_after}
use Rattle.object_store.proofs.ValueLemmas.{value_eq-laws}

-- a value counts one where it is Nil
abbrev dead : Value → ℕ
dead v = cond (is_nil v) 1 0

abbrev live : Value → ℕ
live v = cond (not (is_nil v)) 1 0

suc_is : (n : ℕ) → suc n ≡ n + 1
suc_is n = omega arith

one_more : (n : ℕ) → suc (n + 1) ≡ 1 + n + 1
one_more n = omega arith

one : (b : Bool) → cond b 1 0 + cond (not b) 1 0 ≡ 1
one true = refl
one false = refl

-- each pair is dead or live
pub dead-live : (es : List (Value × Value)) → dead_count es + live_count es ≡ length es
dead-live [] = refl
dead-live (e ∷ es) = omega (arith, sum_by-cons dead e.1 (values_of es), sum_by-cons live e.1 (values_of es), dead-live es, one (is_nil e.1))

-- a value that is set_pair in its place changes the count of dead pairs by itself
pub dead_count-set_value : (t : Value → Bool) (es : List (Value × Value)) (v w : Value) → lookup t es ≡ Some v → dead_count (set_value t es w) + dead v ≡ dead_count es + dead w
dead_count-set_value t es v w h = sum_by-set_value dead t es v w h

pub values_of-append : (es fs : List (Value × Value)) → values_of (es ++ fs) ≡ values_of es ++ values_of fs
values_of-append [] fs = refl
values_of-append (e ∷ es) fs = ap (λ l. e.1 ∷ l) (values_of-append es fs)

pub dead_count-push : (es : List (Value × Value)) (k v : Value) → dead_count (es ++ (k, v) ∷ []) ≡ dead_count es + dead v
dead_count-push es k v = ap (count_by is_nil) (values_of-append es ((k, v) ∷ [])) ∙ sum_by_push dead (values_of es) v

-- no pair is dead once the live ones alone are left
pub dead_count-filter : (es : List (Value × Value)) → dead_count (filter is_live es) ≡ 0
dead_count-filter [] = refl
dead_count-filter (e ∷ es) = by (is_nil e.1) refl (dead_count-filter es)
  where
    by : (b : Bool) → is_nil e.1 ≡ b → dead_count (filter is_live es) ≡ 0 → dead_count (cond (not b) (e ∷ filter is_live es) (filter is_live es)) ≡ 0
    by true h rest = rest
    by false h rest = omega (arith, sum_by-cons dead e.1 (values_of (filter is_live es)), ap {B = ℕ} (λ b. cond b 1 0) h, rest)

-- a key with a pair keeps its place
pub insert_entry-present : (k v : Value) (es : List (Value × Value)) → is_some (lookup (value_eq k) es) ≡ true → insert_entry value_eq es k v ≡ set_value (value_eq k) es v
insert_entry-present k v [] h = absurd (true≢false (sym h))
insert_entry-present k v (e ∷ es) h = by (value_eq k e.0) h (insert_entry-present k v es)
  where
    by : (b : Bool) → is_some (cond b (Some e.1) (lookup (value_eq k) es)) ≡ true → (is_some (lookup (value_eq k) es) ≡ true → insert_entry value_eq es k v ≡ set_value (value_eq k) es v) → (if b then (e.0, v) ∷ es else e ∷ insert_entry value_eq es k v) ≡ cond b ((e.0, v) ∷ es) (e ∷ set_value (value_eq k) es v)
    by true h rest = refl
    by false h rest = ap (λ l. e ∷ l) (rest h)

-- a key without a pair goes last
pub insert_entry-absent : (k v : Value) (es : List (Value × Value)) → lookup (value_eq k) es ≡ None → insert_entry value_eq es k v ≡ es ++ (k, v) ∷ []
insert_entry-absent k v [] h = refl
insert_entry-absent k v (e ∷ es) h = by (value_eq k e.0) h (insert_entry-absent k v es)
  where
    by : (b : Bool) → cond b (Some e.1) (lookup (value_eq k) es) ≡ None → (lookup (value_eq k) es ≡ None → insert_entry value_eq es k v ≡ es ++ (k, v) ∷ []) → (if b then (e.0, v) ∷ es else e ∷ insert_entry value_eq es k v) ≡ e ∷ (es ++ (k, v) ∷ [])
    by true h rest = absurd (none-some _ (sym h))
    by false h rest = ap (λ l. e ∷ l) (rest h)

-- the four cases of `set_pair`
pub set_pair-present : (es : List (Value × Value)) (k v o : Value) → lookup (value_eq k) es ≡ Some o → set_pair es k v ≡ set_value (value_eq k) es v
set_pair-present es k v o h = ap (λ r. if is_some r then set_value (value_eq k) es v else if is_nil v then es else purged es ++ (k, v) ∷ []) h

pub set_pair-absent : (es : List (Value × Value)) (k v : Value) → lookup (value_eq k) es ≡ None → set_pair es k v ≡ (if is_nil v then es else purged es ++ (k, v) ∷ [])
set_pair-absent es k v h = ap (λ r. if is_some r then set_value (value_eq k) es v else if is_nil v then es else purged es ++ (k, v) ∷ []) h

pub set_pair-new : (es : List (Value × Value)) (k v : Value) → lookup (value_eq k) es ≡ None → is_nil v ≡ false → set_pair es k v ≡ purged es ++ (k, v) ∷ []
set_pair-new es k v h n = set_pair-absent es k v h ∙ ap (λ b. if b then es else purged es ++ (k, v) ∷ []) n

-- reading is not changed by taking dead pairs out
unwrap-live : (r : Option Value) → unwrap_or (option_filter (λ w. not (is_nil w)) r) Nil ≡ unwrap_or r Nil
unwrap-live None = refl
unwrap-live (Some Nil) = refl
unwrap-live (Some False) = refl
unwrap-live (Some True) = refl
unwrap-live (Some (Int _)) = refl
unwrap-live (Some (Str _)) = refl
unwrap-live (Some (Table _)) = refl
unwrap-live (Some (Lib _)) = refl
unwrap-live (Some (Func _)) = refl
unwrap-live (Some (Lane _)) = refl
unwrap-live (Some (Linda _)) = refl
unwrap-live (Some (Light _)) = refl

pub get_pair-filter : (es : List (Value × Value)) (q : Value) → IsDistinct value_eq (keys_of es) → get_pair (filter is_live es) q ≡ get_pair es q
get_pair-filter es q d = ap (λ r. unwrap_or r Nil) (lookup-filter-values value_eq-laws (λ w. not (is_nil w)) q es d) ∙ unwrap-live (lookup (value_eq q) es)

-- a live pair that stands last stays
pub filter-push : (es : List (Value × Value)) (k v : Value) → is_nil v ≡ false → filter is_live (es ++ (k, v) ∷ []) ≡ filter is_live es ++ (k, v) ∷ []
filter-push es k v h = filter-append is_live es ((k, v) ∷ []) ∙ ap (λ b. filter is_live es ++ cond (not b) ((k, v) ∷ []) []) h

drop_at : (es : List (Value × Value)) (i : ℕ) (p : Value × Value) → i < length es → drop i es ≡ get_or es i p ∷ drop (i + 1) es
drop_at es i p h = drop-cons es i p h ∙ ap (λ j. get_or es i p ∷ drop j es) (suc_is i)

-- going on from a place
pub first_live-drop : (es : List (Value × Value)) (i : ℕ) (p : Value × Value) → slice_get es i ≡ Some p → first_live (drop i es) ≡ (if is_live p then Some p else first_live (drop (i + 1) es))
first_live-drop es i p h =
    let here : drop i es ≡ p ∷ drop (i + 1) es = drop_at es i p (slice_get_within es i p h) ∙ ap (λ q. q ∷ drop (i + 1) es) (get_or_from_slice_get es i p p h) in
    ap first_live here

pub rest_after-place : (key : Value) (es : List (Value × Value)) → is_some (lookup (value_eq key) es) ≡ true → rest_after key es ≡ Some (drop (position_or_len (value_eq key) (keys_of es) + 1) es)
rest_after-place key [] h = absurd (true≢false (sym h))
rest_after-place key (e ∷ es) h = by (value_eq key e.0) h (rest_after-place key es)
  where
    by : (b : Bool) → is_some (cond b (Some e.1) (lookup (value_eq key) es)) ≡ true → (is_some (lookup (value_eq key) es) ≡ true → rest_after key es ≡ Some (drop (position_or_len (value_eq key) (keys_of es) + 1) es))
        → (if b then Some es else rest_after key es) ≡ Some (drop (cond (not b) (1 + position_or_len (value_eq key) (keys_of es)) 0 + 1) (e ∷ es))
    by true h rest = refl
    by false h rest = rest h ∙ ap (λ m. Some (drop m (e ∷ es))) (one_more (position_or_len (value_eq key) (keys_of es)))

-- one step of a walk over the pairs
module _ (es : List (Value × Value)) (i : ℕ) (p : Value × Value) (here : Some p ≡ slice_get es i) where
  pub walk_live : is_nil p.1 ≡ false → Some p ≡ first_live (drop i es)
  walk_live h = sym (first_live-drop es i p (sym here) ∙ ap (λ b. if not b then Some p else first_live (drop (i + 1) es)) h)

  pub walk_dead : is_nil p.1 ≡ true → first_live (drop i es) ≡ first_live (drop (i + 1) es)
  walk_dead h = first_live-drop es i p (sym here) ∙ ap (λ b. if not b then Some p else first_live (drop (i + 1) es)) h

-- the place that a map answers
pub place_is : (t : Value → Bool) (xs : List Value) (i : ℕ) → Some i ≡ position t xs → position_or_len t xs ≡ i
place_is t xs i h = by (nat_lt (position_or_len t xs) (length xs)) h
  where
    by : (b : Bool) → Some i ≡ cond b (Some (position_or_len t xs)) None → position_or_len t xs ≡ i
    by true j = sym (ap (λ r. unwrap_or r i) j)
    by false j = absurd (none-some _ (sym j))

pub rest_after-none : (key : Value) (es : List (Value × Value)) → is_some (lookup (value_eq key) es) ≡ false → rest_after key es ≡ None
rest_after-none key [] h = refl
rest_after-none key (e ∷ es) h = by (value_eq key e.0) h (rest_after-none key es)
  where
    by : (b : Bool) → is_some (cond b (Some e.1) (lookup (value_eq key) es)) ≡ false → (is_some (lookup (value_eq key) es) ≡ false → rest_after key es ≡ None) → (if b then Some es else rest_after key es) ≡ None
    by true j rest = absurd (true≢false j)
    by false j rest = rest j

module _ (es : List (Value × Value)) (key : Value) (named : is_nil key ≡ false) where
  next_named : next_pair es key ≡ option_map first_live (rest_after key es)
  next_named = ap (λ b. if b then Some (first_live es) else option_map first_live (rest_after key es)) named

  pub next_found : (i : ℕ) (r : Option (Value × Value)) → Some i ≡ position (value_eq key) (keys_of es) → true ≡ is_some (lookup (value_eq key) es) → r ≡ first_live (drop (i + 1) es) → next_pair es key ≡ Some r
  next_found i r at there is =
      next_named ∙ ap (option_map first_live) (rest_after-place key es (sym there))
      ∙ ap (λ n. Some (first_live (drop (n + 1) es))) (place_is (value_eq key) (keys_of es) i at) ∙ ap Some (sym is)

  pub next_missing : false ≡ is_some (lookup (value_eq key) es) → next_pair es key ≡ None
  next_missing none = next_named ∙ ap (option_map first_live) (rest_after-none key es (sym none))

-- `Nil` stays without a pair
has_pair-set_value : (k v q : Value) (es : List (Value × Value)) → has_pair (set_value (value_eq k) es v) q ≡ has_pair es q
has_pair-set_value k v q [] = refl
has_pair-set_value k v q (e ∷ es) = by (value_eq k e.0) (has_pair-set_value k v q es)
  where
    ends : (b : Bool) (x y : Value) (r : Option Value) → is_some (cond b (Some x) r) ≡ is_some (cond b (Some y) r)
    ends true x y r = refl
    ends false x y r = refl

    goes : (b : Bool) (x : Value) (r s : Option Value) → is_some r ≡ is_some s → is_some (cond b (Some x) r) ≡ is_some (cond b (Some x) s)
    goes true x r s h = refl
    goes false x r s h = h

    by : (b : Bool) → has_pair (set_value (value_eq k) es v) q ≡ has_pair es q → has_pair (cond b ((e.0, v) ∷ es) (e ∷ set_value (value_eq k) es v)) q ≡ has_pair (e ∷ es) q
    by true rest = ends (value_eq q e.0) v e.1 (lookup (value_eq q) es)
    by false rest = goes (value_eq q e.0) e.1 (lookup (value_eq q) (set_value (value_eq k) es v)) (lookup (value_eq q) es) rest

has_pair-push : (k v q : Value) (es : List (Value × Value)) → value_eq q k ≡ false → has_pair es q ≡ false → has_pair (es ++ (k, v) ∷ []) q ≡ false
has_pair-push k v q [] ne none = ap (λ b. is_some (cond b (Some v) None)) ne
has_pair-push k v q (e ∷ es) ne none = by (value_eq q e.0) none (has_pair-push k v q es ne)
  where
    by : (b : Bool) → is_some (cond b (Some e.1) (lookup (value_eq q) es)) ≡ false → (has_pair es q ≡ false → has_pair (es ++ (k, v) ∷ []) q ≡ false) → is_some (cond b (Some e.1) (lookup (value_eq q) (es ++ (k, v) ∷ []))) ≡ false
    by true h rest = h
    by false h rest = rest h

pub has_pair-filter : (q : Value) (es : List (Value × Value)) → has_pair es q ≡ false → has_pair (filter is_live es) q ≡ false
has_pair-filter q [] none = none
has_pair-filter q (e ∷ es) none = by (value_eq q e.0) refl none (has_pair-filter q es)
  where
    kept : (c : Bool) → value_eq q e.0 ≡ false → has_pair (filter is_live es) q ≡ false → has_pair (cond c (e ∷ filter is_live es) (filter is_live es)) q ≡ false
    kept true ne rest = ap (λ b. is_some (cond b (Some e.1) (lookup (value_eq q) (filter is_live es)))) ne ∙ rest
    kept false ne rest = rest

    by : (b : Bool) → value_eq q e.0 ≡ b → is_some (cond b (Some e.1) (lookup (value_eq q) es)) ≡ false → (has_pair es q ≡ false → has_pair (filter is_live es) q ≡ false) → has_pair (cond (is_live e) (e ∷ filter is_live es) (filter is_live es)) q ≡ false
    by true ne h rest = absurd (true≢false h)
    by false ne h rest = kept (is_live e) ne (rest h)

pub has_pair-purged : (q : Value) (es : List (Value × Value)) → has_pair es q ≡ false → has_pair (purged es) q ≡ false
has_pair-purged q es none = by (nat_lt (live_count es) (dead_count es))
  where
    by : (b : Bool) → has_pair (if b then filter is_live es else es) q ≡ false
    by true = has_pair-filter q es none
    by false = none

pub has_pair-set_other : (es : List (Value × Value)) (k v q : Value) → value_eq q k ≡ false → has_pair es q ≡ false → has_pair (set_pair es k v) q ≡ false
has_pair-set_other es k v q ne none = by (has_pair es k) (is_nil v)
  where
    by : (b c : Bool) → has_pair (if b then set_value (value_eq k) es v else if c then es else purged es ++ (k, v) ∷ []) q ≡ false
    by true c = has_pair-set_value k v q es ∙ none
    by false true = none
    by false false = has_pair-push k v q (purged es) ne (has_pair-purged q es none)

-- what the counts of dead pairs become
pub same_length : (es fs : List (Value × Value)) (key v : Value) → fs ≡ set_value (value_eq key) es v → length fs ≡ length es
same_length es fs key v made = ap length made ∙ length-set_value (value_eq key) es v

module _ (es : List (Value × Value)) (key o : Value) (n : ℕ) (counted : n ≡ dead_count es) (there : Some o ≡ lookup (value_eq key) es) where
  pub dead_there : is_nil o ≡ true → 0 < n
  dead_there was = omega (arith, counted, dead_count-set_value (value_eq key) es o True (sym there), ap {B = ℕ} (λ b. cond b 1 0) was)

  pub recounted_is : (fs : List (Value × Value)) (v : Value) (m : ℕ) → fs ≡ set_value (value_eq key) es v → m + (if is_nil o then 1 else 0) ≡ n + (if is_nil v then 1 else 0) → m ≡ dead_count fs
  recounted_is fs v m made sum = omega (arith, counted, sum, dead_count-set_value (value_eq key) es o v (sym there), ap dead_count made)

pub dead-le-length : (es : List (Value × Value)) → dead_count es ≤ length es
dead-le-length es = omega (arith, dead-live es)

-- a new key, with and without the purge
module _ (es : List (Value × Value)) (k v : Value) (n all : ℕ) (counted : n ≡ dead_count es) (sized : all ≡ length es) (live : is_nil v ≡ false) (none : None ≡ lookup (value_eq k) es) where
  pub added : (fs : List (Value × Value)) → n ≤ all - n → fs ≡ es ++ (k, v) ∷ [] → fs ≡ set_pair es k v
  added fs few made =
      let more : dead_count es ≤ live_count es = omega (arith, few, counted, sized, dead-live es) in
      made ∙ sym (set_pair-new es k v (sym none) live ∙ ap (λ b. (if b then filter is_live es else es) ++ (k, v) ∷ []) (le-ltb _ _ more))

  pub added_dead : (fs : List (Value × Value)) → fs ≡ es ++ (k, v) ∷ [] → n ≡ dead_count fs
  added_dead fs made = omega (arith, counted, ap dead_count made, dead_count-push es k v, ap {B = ℕ} (λ b. cond b 1 0) live)

  pub purged_added : (fs : List (Value × Value)) → all - n < n → fs ≡ filter is_live es ++ (k, v) ∷ [] → fs ≡ set_pair es k v
  purged_added fs many made =
      let more : live_count es < dead_count es = omega (arith, many, counted, sized, dead-live es) in
      made ∙ sym (set_pair-new es k v (sym none) live ∙ ap (λ b. (if b then filter is_live es else es) ++ (k, v) ∷ []) (lt-ltb _ _ more))

  pub purged_added_dead : (fs : List (Value × Value)) → fs ≡ filter is_live es ++ (k, v) ∷ [] → 0 ≡ dead_count fs
  purged_added_dead fs made = omega (arith, ap dead_count made, dead_count-push (filter is_live es) k v, dead_count-filter es, ap {B = ℕ} (λ b. cond b 1 0) live)

pub length-one_more : (es fs : List (Value × Value)) (p : Value × Value) → fs ≡ es ++ p ∷ [] → length fs ≡ length es + 1
length-one_more es fs p made = ap length made ∙ length-append es (p ∷ [])

pub length-filter_le : (es : List (Value × Value)) → length (filter is_live es) ≤ length es
length-filter_le [] = omega arith
length-filter_le (e ∷ es) = by (is_live e) (length-filter_le es)
  where
    by : (b : Bool) → length (filter is_live es) ≤ length es → length (cond b (e ∷ filter is_live es) (filter is_live es)) ≤ length (e ∷ es)
    by true rest = omega (arith, rest)
    by false rest = omega (arith, rest)
