-- What `set_pair` leaves of any list of pairs.
use Rattle.std.proofs.Common.{◌≡◌, ◌∙◌, Bool, true, false, cond, ◌||◌, if◌then◌else◌, List, [], ◌∷◌, ◌++◌, filter, nat_lt, Option, None, Some, is_some, refl, ap, sym, subst, true≢false}
use Rattle.std.specs.List.{IsDistinct, list_any}
use Rattle.std.specs.Map.{lookup, keys_of}
use Rattle.std.specs.Option.{unwrap_or}
use Rattle.std.proofs.lemmas.Map.{keys-set_value, lookup-set_value}
use Rattle.std.proofs.lemmas.Map.Keys.{IsDistinct-push}
use Rattle.std.proofs.lemmas.Map.Made.{IsDistinct-keys_filter}
use Rattle.object_store.specs.declared.value.Value.{Value}
use Rattle.object_store.specs.declared.value.Value.TheVariants.{Nil}
use Rattle.object_store.specs.Value.{value_eq, is_nil}
use Rattle.object_store.specs.Pairs.{get_pair, has_pair, set_pair, purged, is_live, live_count, dead_count, IsTable}
use Rattle.object_store.proofs.ValueLemmas.{value_eq-Decides, value_eq-laws}
use Rattle.object_store.proofs.BorderLemmas.{nil_from_is_nil, nil_other, other_key}
use Rattle.object_store.proofs.PairLemmas.{set_pair-present, set_pair-absent, get_pair-filter, has_pair-set_other, has_pair-purged}

-- reading where one more pair stands last
get_pair-push : (es : List (Value × Value)) (k v q : Value) → get_pair (es ++ (k, v) ∷ []) q ≡ (if has_pair es q then get_pair es q else if value_eq q k then v else Nil)
get_pair-push [] k v q = by (value_eq q k)
  where
    by : (b : Bool) → unwrap_or (cond b (Some v) None) Nil ≡ (if b then v else Nil)
    by true = refl
    by false = refl
get_pair-push (e ∷ es) k v q = by (value_eq q e.0) (get_pair-push es k v q)
  where
    by : (b : Bool) → get_pair (es ++ (k, v) ∷ []) q ≡ (if has_pair es q then get_pair es q else if value_eq q k then v else Nil)
        → unwrap_or (cond b (Some e.1) (lookup (value_eq q) (es ++ (k, v) ∷ []))) Nil
        ≡ (if is_some (cond b (Some e.1) (lookup (value_eq q) es)) then unwrap_or (cond b (Some e.1) (lookup (value_eq q) es)) Nil else if value_eq q k then v else Nil)
    by true rest = refl
    by false rest = rest

purged-reads : (es : List (Value × Value)) (q : Value) → IsDistinct value_eq (keys_of es) → get_pair (purged es) q ≡ get_pair es q
purged-reads es q distinct = by (nat_lt (live_count es) (dead_count es))
  where
    by : (b : Bool) → get_pair (if b then filter is_live es else es) q ≡ get_pair es q
    by true = get_pair-filter es q distinct
    by false = refl

absent_reads : (r : Option Value) → (if is_some r then unwrap_or r Nil else Nil) ≡ unwrap_or r Nil
absent_reads None = refl
absent_reads (Some v) = refl

-- a look-up after `set_pair` finds the value that was set, and else what it found before
pub get_pair-set_pair : (es : List (Value × Value)) (k v : Value) → IsDistinct value_eq (keys_of es) → (q : Value) → get_pair (set_pair es k v) q ≡ (if value_eq k q then v else get_pair es q)
get_pair-set_pair es k v distinct q = at (lookup (value_eq k) es) refl
  where
    shown : (b : Bool) (r : Option Value) → unwrap_or (cond b (Some v) r) Nil ≡ (if b then v else unwrap_or r Nil)
    shown true r = refl
    shown false r = refl

    same : (b : Bool) → value_eq k q ≡ b → lookup (value_eq k) es ≡ None → v ≡ Nil → get_pair es q ≡ (if b then v else get_pair es q)
    same true e none nil = ap (λ x. get_pair es x) (sym ((value_eq-Decides k q).0 e)) ∙ ap (λ r. unwrap_or r Nil) none ∙ sym nil
    same false e none nil = refl

    new : (b : Bool) → value_eq k q ≡ b → lookup (value_eq k) es ≡ None
        → (if has_pair (purged es) q then get_pair (purged es) q else if value_eq q k then v else Nil) ≡ (if b then v else get_pair es q)
    new true e none =
        let one : k ≡ q = (value_eq-Decides k q).0 e in
        let gone : has_pair (purged es) q ≡ false = subst (λ x. has_pair (purged es) x ≡ false) one (has_pair-purged k es (ap is_some none)) in
        ap (λ b. if b then get_pair (purged es) q else if value_eq q k then v else Nil) gone
        ∙ ap (λ b. if b then v else Nil) ((value_eq-Decides q k).1 (sym one))
    new false e none =
        let other : value_eq q k ≡ false = other_key q k (λ j. true≢false (sym ((value_eq-Decides k q).1 (sym j)) ∙ e)) in
        ap (λ b. if has_pair (purged es) q then get_pair (purged es) q else if b then v else Nil) other
        ∙ absent_reads (lookup (value_eq q) (purged es)) ∙ purged-reads es q distinct

    value : (c : Bool) → is_nil v ≡ c → lookup (value_eq k) es ≡ None → get_pair (if c then es else purged es ++ (k, v) ∷ []) q ≡ (if value_eq k q then v else get_pair es q)
    value true n none = same (value_eq k q) refl none (nil_from_is_nil v n)
    value false n none = get_pair-push (purged es) k v q ∙ new (value_eq k q) refl none

    at : (r : Option Value) → lookup (value_eq k) es ≡ r → get_pair (set_pair es k v) q ≡ (if value_eq k q then v else get_pair es q)
    at (Some o) e =
        ap (λ l. get_pair l q) (set_pair-present es k v o e)
        ∙ ap (λ r. unwrap_or r Nil) (lookup-set_value value_eq-laws (value_eq k) (value_eq-laws.congr k) q v es (ap is_some e))
        ∙ shown (value_eq k q) (lookup (value_eq q) es)
    at None e = ap (λ l. get_pair l q) (set_pair-absent es k v e) ∙ value (is_nil v) refl e

-- whether a key is among the keys
list_any-keys : (t : Value → Bool) (es : List (Value × Value)) → list_any t (keys_of es) ≡ is_some (lookup t es)
list_any-keys t [] = refl
list_any-keys t (e ∷ es) = by (t e.0) (list_any-keys t es)
  where
    by : (b : Bool) → list_any t (keys_of es) ≡ is_some (lookup t es) → (b || list_any t (keys_of es)) ≡ is_some (cond b (Some e.1) (lookup t es))
    by true rest = refl
    by false rest = rest

keys_of-push : (es : List (Value × Value)) (k v : Value) → keys_of (es ++ (k, v) ∷ []) ≡ keys_of es ++ k ∷ []
keys_of-push [] k v = refl
keys_of-push (e ∷ es) k v = ap (λ l. e.0 ∷ l) (keys_of-push es k v)

distinct-purged : (es : List (Value × Value)) → IsDistinct value_eq (keys_of es) → IsDistinct value_eq (keys_of (purged es))
distinct-purged es distinct = by (nat_lt (live_count es) (dead_count es))
  where
    by : (b : Bool) → IsDistinct value_eq (keys_of (if b then filter is_live es else es))
    by true = IsDistinct-keys_filter value_eq is_live es distinct
    by false = distinct

pub distinct-push : (es : List (Value × Value)) (k v : Value) → IsDistinct value_eq (keys_of es) → has_pair es k ≡ false → IsDistinct value_eq (keys_of (es ++ (k, v) ∷ []))
distinct-push es k v distinct none =
    subst (IsDistinct value_eq) (sym (keys_of-push es k v)) (IsDistinct-push value_eq-laws (keys_of es) k distinct (list_any-keys (value_eq k) es ∙ none))

-- a table stays a table
pub IsTable-set_pair : (es : List (Value × Value)) (k v : Value) → is_nil k ≡ false → IsTable es → IsTable (set_pair es k v)
IsTable-set_pair es k v named held = record {
  keys_once = at (lookup (value_eq k) es) refl;
  no_nil_key = has_pair-set_other es k v Nil (nil_other k named) held.no_nil_key;
}
  where
    value : (c : Bool) → lookup (value_eq k) es ≡ None → IsDistinct value_eq (keys_of (if c then es else purged es ++ (k, v) ∷ []))
    value true none = held.keys_once
    value false none = distinct-push (purged es) k v (distinct-purged es held.keys_once) (has_pair-purged k es (ap is_some none))

    at : (r : Option Value) → lookup (value_eq k) es ≡ r → IsDistinct value_eq (keys_of (set_pair es k v))
    at (Some o) e = subst (λ l. IsDistinct value_eq (keys_of l)) (sym (set_pair-present es k v o e)) (subst (IsDistinct value_eq) (sym (keys-set_value (value_eq k) es v)) held.keys_once)
    at None e = subst (λ l. IsDistinct value_eq (keys_of l)) (sym (set_pair-absent es k v e)) (value (is_nil v) e)

pub reads-set_pair : (es fs : List (Value × Value)) (k v : Value) → IsTable es → fs ≡ set_pair es k v → (q : Value) → get_pair fs q ≡ (if value_eq k q then v else get_pair es q)
reads-set_pair es fs k v held made q = ap (λ l. get_pair l q) made ∙ get_pair-set_pair es k v held.keys_once q
