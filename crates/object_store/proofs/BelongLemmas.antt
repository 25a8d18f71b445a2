-- What belongs to a state: what is read of its tables, and tables that are changed.
use Rattle.std.proofs.Common.{◌≡◌, ℕ, zero, suc, ◌<◌, Bool, true, false, cond, if◌then◌else◌, nat_lt, List, [], ◌∷◌, ◌++◌, filter, All, Option, None, Some, IfSome, slice_get, sym, subst, arith, Result, Ok, Err, OnOk, OnErr}
use Rattle.std.specs.Map.{lookup, set_value}
use Rattle.std.specs.Option.{unwrap_or, option_map}
use Rattle.std.proofs.lemmas.List.Elements.{All-push, All-filter}
use Rattle.std.proofs.lemmas.Option.{none-some, same_Some}
use Rattle.object_store.specs.declared.value.Value.{Value}
use Rattle.object_store.specs.declared.value.Value.TheVariants.{Nil}
use Rattle.object_store.specs.Value.{TableId, value_eq, is_nil}
use Rattle.object_store.specs.Pairs.{get_pair, set_pair, has_pair, is_live, live_count, dead_count, first_live, rest_after, next_pair}
use Rattle.object_store.specs.Table.{Contents, TableShown, contents_of}
use Rattle.object_store.specs.declared.table.SetFault.{SetFault}
use Rattle.object_store.specs.Closed.{Bounds, IsWithin, IsPairWithin, IsTableWithin}
use Rattle.object_store.proofs.ClosedLemmas.{All-at}

module _ {A : Type 0} (P : A → Type 0) where
  all_cons : (x : A) (xs : List A) → P x → All P xs → All P (x ∷ xs)
  all_cons x xs here rest zero d lt = here
  all_cons x xs here rest (suc k) d lt = rest k d (omega (arith, lt))

  all_head : (x : A) (xs : List A) → All P (x ∷ xs) → P x
  all_head x xs all = all 0 x (omega arith)

  all_tail : (x : A) (xs : List A) → All P (x ∷ xs) → All P xs
  all_tail x xs all = λ k d lt. all (suc k) d (omega (arith, lt))

module _ (b : Bounds) where
  -- what `get` reads
  pub get-within : (es : List (Value × Value)) (key : Value) → All (IsPairWithin b) es → IsWithin b (get_pair es key)
  get-within [] key all = tt
  get-within (e ∷ es) key all = by (value_eq key e.0) (get-within es key (all_tail (IsPairWithin b) e es all))
    where
      by : (c : Bool) → IsWithin b (get_pair es key) → IsWithin b (unwrap_or (cond c (Some e.1) (lookup (value_eq key) es)) Nil)
      by true rest = (all_head (IsPairWithin b) e es all).1
      by false rest = rest

  first_live-within : (es : List (Value × Value)) → All (IsPairWithin b) es → IfSome (first_live es) (IsPairWithin b)
  first_live-within [] all = tt
  first_live-within (e ∷ es) all = by (is_live e) (first_live-within es (all_tail (IsPairWithin b) e es all))
    where
      by : (c : Bool) → IfSome (first_live es) (IsPairWithin b) → IfSome (if c then Some e else first_live es) (IsPairWithin b)
      by true rest = all_head (IsPairWithin b) e es all
      by false rest = rest

  rest_after-within : (key : Value) (es : List (Value × Value)) → All (IsPairWithin b) es → IfSome (rest_after key es) (All (IsPairWithin b))
  rest_after-within key [] all = tt
  rest_after-within key (e ∷ es) all = by (value_eq key e.0) (rest_after-within key es (all_tail (IsPairWithin b) e es all))
    where
      by : (c : Bool) → IfSome (rest_after key es) (All (IsPairWithin b)) → IfSome (if c then Some es else rest_after key es) (All (IsPairWithin b))
      by true rest = all_tail (IsPairWithin b) e es all
      by false rest = rest

  -- what `next` reads
  pub next-within : (es : List (Value × Value)) (key : Value) (pair : Option (Value × Value)) → All (IsPairWithin b) es → next_pair es key ≡ Some pair → IfSome pair (IsPairWithin b)
  next-within es key pair all at = by (is_nil key) (rest_after key es) (rest_after-within key es all) at
    where
      by : (c : Bool) (r : Option (List (Value × Value))) → IfSome r (All (IsPairWithin b)) → (if c then Some (first_live es) else option_map first_live r) ≡ Some pair → IfSome pair (IsPairWithin b)
      by true r rest e = subst (λ p. IfSome p (IsPairWithin b)) (same_Some _ _ e) (first_live-within es all)
      by false None rest e = absurd (none-some _ e)
      by false (Some fs) rest e = subst (λ p. IfSome p (IsPairWithin b)) (same_Some _ _ e) (first_live-within fs rest)

  -- what `pair` reads
  pub pair-within : (es : List (Value × Value)) (i : ℕ) (pair : Value × Value) → All (IsPairWithin b) es → slice_get es i ≡ Some pair → IsPairWithin b pair
  pair-within es i pair = All-at (IsPairWithin b) es i pair

  set_value-within : (t : Value → Bool) (es : List (Value × Value)) (w : Value) → IsWithin b w → All (IsPairWithin b) es → All (IsPairWithin b) (set_value t es w)
  set_value-within t [] w fits all = all
  set_value-within t (e ∷ es) w fits all = by (t e.0) (set_value-within t es w fits (all_tail (IsPairWithin b) e es all))
    where
      by : (c : Bool) → All (IsPairWithin b) (set_value t es w) → All (IsPairWithin b) (cond c ((e.0, w) ∷ es) (e ∷ set_value t es w))
      by true rest = all_cons (IsPairWithin b) (e.0, w) es ((all_head (IsPairWithin b) e es all).0, fits) (all_tail (IsPairWithin b) e es all)
      by false rest = all_cons (IsPairWithin b) e (set_value t es w) (all_head (IsPairWithin b) e es all) rest

  -- what `set` leaves
  pub set-within : (es : List (Value × Value)) (key value : Value) → IsWithin b key → IsWithin b value → All (IsPairWithin b) es → All (IsPairWithin b) (set_pair es key value)
  set-within es key value key_fits value_fits all = by (has_pair es key) (is_nil value) (nat_lt (live_count es) (dead_count es))
    where
      last : (c : Bool) → All (IsPairWithin b) ((if c then filter is_live es else es) ++ (key, value) ∷ [])
      last true = All-push (IsPairWithin b) (filter is_live es) (key, value) (All-filter is_live (IsPairWithin b) es all) (key_fits, value_fits)
      last false = All-push (IsPairWithin b) es (key, value) all (key_fits, value_fits)

      by : (there none due : Bool) → All (IsPairWithin b) (if there then set_value (value_eq key) es value else if none then es else (if due then filter is_live es else es) ++ (key, value) ∷ [])
      by true none due = set_value-within (value_eq key) es value value_fits all
      by false true due = all
      by false false due = last due

  pub IsTableWithin-set : (t : Contents) (key value : Value) → IsTableWithin b t → IsWithin b key → IsWithin b value → IsTableWithin b (record t { pairs = set_pair t.pairs key value })
  IsTableWithin-set t key value fits key_fits value_fits = record { pairs = set-within t.pairs key value key_fits value_fits fits.pairs; meta = fits.meta }

  pub IsTableWithin-set_meta : (t : Contents) (meta : Option TableId) → IsTableWithin b t → IfSome meta (λ id. id.number < b.tables) → IsTableWithin b (record t { meta = meta })
  IsTableWithin-set_meta t meta fits meta_fits = record { pairs = fits.pairs; meta = meta_fits }

  -- a table without pairs and without a metatable
  pub IsTableWithin-new : IsTableWithin b (record { pairs = []; meta = None })
  IsTableWithin-new = record { pairs = λ k d lt. absurd (omega (arith, lt)); meta = tt }

  -- a table belongs still after a set of values that belong, whatever it answered
  pub IsTableWithin-after_set : (old new : TableShown) (r : Result (Unit {0}) SetFault) (key value : Value) → IsTableWithin b (contents_of old) → IsWithin b key → IsWithin b value
      → OnOk r (new.pairs ≡ set_pair old.pairs key value) → new.meta ≡ old.meta → OnErr r (contents_of new ≡ contents_of old) → IsTableWithin b (contents_of new)
  IsTableWithin-after_set old new (Ok x) key value fits key_fits value_fits pairs meta same =
      let made : contents_of new ≡ record { pairs = set_pair old.pairs key value; meta = old.meta } = λ j. record { pairs = pairs j; meta = meta j } in
      subst (IsTableWithin b) (sym made) (IsTableWithin-set (contents_of old) key value fits key_fits value_fits)
  IsTableWithin-after_set old new (Err e) key value fits key_fits value_fits pairs meta same = subst (IsTableWithin b) (sym same) fits
