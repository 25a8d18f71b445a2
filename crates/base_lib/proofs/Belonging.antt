-- What keeps a state closed.
use Rattle.std.proofs.Common.{◌≡◌, ℕ, ◌<◌, Bool, true, false, cond, List, [], ◌∷◌, ◌++◌, length, All, Option, Some, None, IfSome, slice_get, subst, sym, inl, inr, nat_lt, filter, ap, arith, ◌≤◌, length-append}
use Rattle.std.specs.Map.{set_value}
use Rattle.std.specs.List.{list_any}
use Rattle.std.specs.Str.{bytes_eq}
use Rattle.lanes_arena.specs.Names.{named}
use Rattle.std.proofs.lemmas.List.Elements.{All-nil, All-cons, All-head, All-tail, All-push, All-filter}
use Rattle.std.proofs.lemmas.Option.{slice_get_cases}
use Rattle.object_store.specs.declared.value.Value.{Value}
use Rattle.object_store.specs.Value.{TableId, value_eq, is_nil}
use Rattle.object_store.specs.Pairs.{is_live, set_pair, has_pair, purged, live_count, dead_count}
use Rattle.object_store.specs.Table.{Contents}
use Rattle.object_store.specs.Heap.{Heap, Shown, with_table}
use Rattle.object_store.specs.Closed.{Bounds, bounds_of, IsWithin, IsPairWithin, IsTableWithin, IsClosed, Belongs, BelongsTable}
use Rattle.object_store.proofs.ClosedLemmas.{IsClosed-with_table, IsWithin-raised}
use Rattle.base_lib.specs.Base.{set_in, with_pair}

-- what holds of each element holds of the one at a place
pub IfSome-slice_get : {X : Type 0} (P : X → Type 0) (xs : List X) (n : ℕ) → All P xs → IfSome (slice_get xs n) P
IfSome-slice_get {X} P xs n all =
    let Q : Option X → Type 0 = λ o. IfSome o P in
    elim ((slice_get_cases xs n).1) [
      | inl there ↦ subst Q (sym there.2) (subst P there.3 (all n there.0 there.1))
      | inr beyond ↦ subst Q (sym beyond.1) tt
    ]

module _ (b : Bounds) where
  -- a value takes the place of another
  pairs_replaced : (test : Value → Bool) (pairs : List (Value × Value)) (value : Value) → All (IsPairWithin b) pairs → IsWithin b value → All (IsPairWithin b) (set_value test pairs value)
  pairs_replaced test [] value all fits = All-nil (IsPairWithin b)
  pairs_replaced test (pair ∷ pairs) value all fits =
      let first : IsPairWithin b pair = All-head (IsPairWithin b) pair pairs all in
      let rest : All (IsPairWithin b) pairs = All-tail (IsPairWithin b) pair pairs all in
      elim (test pair.0) as (λ t. All (IsPairWithin b) (cond t ((pair.0, value) ∷ pairs) (pair ∷ set_value test pairs value))) [
        | true ↦ All-cons (IsPairWithin b) (pair.0, value) pairs (first.0, fits) rest
        | false ↦ All-cons (IsPairWithin b) pair (set_value test pairs value) first (pairs_replaced test pairs value rest fits)
      ]

  pairs_purged : (pairs : List (Value × Value)) → All (IsPairWithin b) pairs → All (IsPairWithin b) (purged pairs)
  pairs_purged pairs all =
      elim (nat_lt (live_count pairs) (dead_count pairs)) as (λ t. All (IsPairWithin b) (cond t (filter is_live pairs) pairs)) [
        | true ↦ All-filter is_live (IsPairWithin b) pairs all
        | false ↦ all
      ]

  -- the pairs of a table once a key is set
  pairs_set : (pairs : List (Value × Value)) (key value : Value) → All (IsPairWithin b) pairs → IsWithin b key → IsWithin b value → All (IsPairWithin b) (set_pair pairs key value)
  pairs_set pairs key value all key_fits value_fits =
      elim (has_pair pairs key) as (λ t. All (IsPairWithin b) (cond t (set_value (value_eq key) pairs value) (cond (is_nil value) pairs (purged pairs ++ (key, value) ∷ [])))) [
        | true ↦ pairs_replaced (value_eq key) pairs value all value_fits
        | false ↦
            elim (is_nil value) as (λ t. All (IsPairWithin b) (cond t pairs (purged pairs ++ (key, value) ∷ []))) [
              | true ↦ all
              | false ↦ All-push (IsPairWithin b) (purged pairs) (key, value) (pairs_purged pairs all) (key_fits, value_fits)
            ]
      ]

  table_set : (o : Option Contents) (key value : Value) → IfSome o (IsTableWithin b) → IsWithin b key → IsWithin b value → IsTableWithin b (set_in o key value)
  table_set None key value fits key_fits value_fits = record { pairs = All-nil (IsPairWithin b); meta = tt }
  table_set (Some table) key value fits key_fits value_fits = record { pairs = pairs_set table.pairs key value fits.pairs key_fits value_fits; meta = fits.meta }

-- a closed state stays closed once a key is set that belongs to it, to a value that does
pub IsClosed-with_pair : (s : Shown) (n : ℕ) (key value : Value) → IsClosed s → Belongs s key → Belongs s value → IsClosed (record s { heap = with_pair s.heap n key value })
IsClosed-with_pair s n key value closed key_fits value_fits =
    let there : IfSome (slice_get s.heap.tables n) (BelongsTable s) = IfSome-slice_get (BelongsTable s) s.heap.tables n closed.tables in
    let table : Contents = set_in (slice_get s.heap.tables n) key value in
    IsClosed-with_table s n table closed (table_set (bounds_of s) (slice_get s.heap.tables n) key value there key_fits value_fits)

-- the same where the table is there and the new one has its pairs and its metatable
pub IsClosed-set_there : (s : Shown) (n : ℕ) (table new : Contents) (key value : Value) → Some table ≡ slice_get s.heap.tables n → new.pairs ≡ set_pair table.pairs key value → new.meta ≡ table.meta → IsClosed s → Belongs s key → Belongs s value → IsClosed (with_table s n new)
IsClosed-set_there s n table new key value at pairs meta closed key_fits value_fits =
    let there : BelongsTable s table = subst (λ (o : Option Contents). IfSome o (BelongsTable s)) (sym at) (IfSome-slice_get (BelongsTable s) s.heap.tables n closed.tables) in
    IsClosed-with_table s n new closed (record {
      pairs = subst (All (IsPairWithin (bounds_of s))) (sym pairs) (pairs_set (bounds_of s) table.pairs key value there.pairs key_fits value_fits);
      meta = subst (λ (m : Option TableId). IfSome m (λ id. id.number < length s.heap.tables)) (sym meta) there.meta;
    })

-- a state that is the same is closed
pub IsClosed-same : (s new : Shown) → new ≡ s → IsClosed s → IsClosed new
IsClosed-same s new same closed = subst IsClosed (sym same) closed

longer : (texts : List (List ℕ)) (text : List ℕ) → length texts ≤ length (named texts text)
longer texts text =
    elim (list_any (bytes_eq text) texts) as (λ t. length texts ≤ length (cond t texts (texts ++ text ∷ []))) [
      | true ↦ omega arith
      | false ↦ omega (arith, length-append texts (text ∷ []))
    ]

-- what belongs to a state still does once a text is interned
pub Belongs-with_text : (s new : Shown) (text : List ℕ) (value : Value) → new.heap ≡ s.heap → new.texts ≡ named s.texts text → Belongs s value → Belongs new value
Belongs-with_text s new text value heap texts fits =
    let tables : length new.heap.tables ≡ length s.heap.tables = ap (λ (h : Heap). length h.tables) heap in
    let functions : length new.heap.functions ≡ length s.heap.functions = ap (λ (h : Heap). length h.functions) heap in
    let cells : length new.heap.cells ≡ length s.heap.cells = ap (λ (h : Heap). length h.cells) heap in
    let more : length s.texts ≤ length new.texts = omega (arith, ap length texts, longer s.texts text) in
    IsWithin-raised (bounds_of s) (bounds_of new) (record { tables = omega arith; functions = omega arith; cells = omega arith; texts = more }) value fits
