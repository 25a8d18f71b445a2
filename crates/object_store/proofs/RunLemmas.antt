-- Reading and writing where a run stands first.
use Rattle.std.proofs.Common.{◌≡◌, ◌≢◌, ◌∙◌, ℕ, zero, suc, ◌+◌, ◌<◌, ◌≤◌, pos, Bool, true, false, cond, if◌then◌else◌, List, [], ◌∷◌, ◌++◌, length, get_or, slice_get, slice_set, Option, None, Some, refl, ap, sym, subst, arith, true≢false, append_assoc, take, drop, filter, not, is_some, position, nat_lt, length-append, OnSome}
use Rattle.std.specs.Map.{lookup, set_value, keys_of}
use Rattle.object_store.specs.declared.value.Value.{Value}
use Rattle.object_store.specs.declared.value.Value.TheVariants.{Nil, Int}
use Rattle.std.specs.Option.{unwrap_or}
use Rattle.std.proofs.lemmas.Option.{slice_get-get_or, slice_get_within, get_or_from_slice_get, none-some}
use Rattle.std.proofs.lemmas.List.{append-nil, length-map}
use Rattle.std.proofs.lemmas.List.Quantifiers.{position-Some}
use Rattle.std.proofs.Math.Seq.{drop-cons}
use Rattle.std.specs.List.{IsDistinct, AllByRecursion, position_or_len}
use Rattle.std.proofs.lemmas.Map.Keys.{IsDistinct-tail}
use Rattle.std.proofs.lemmas.Map.Made.{IsDistinct-keys_filter}
use borrow.Author.Tests.{ltb-false}
use Rattle.std.proofs.lemmas.List.Sums.{prefix_len-le-length}
use Rattle.indexmap.proofs.MapLemmas.{absent_before, some_index}
use Rattle.object_store.specs.Pairs.{get_pair, is_live, rest_after}
use Rattle.object_store.specs.Value.{value_eq, is_nil}
use Rattle.object_store.proofs.ValueLemmas.{value_eq-Decides, value_eq-laws}
use Rattle.object_store.proofs.PairLemmas.{has_pair-filter, rest_after-place, place_is}
use Rattle.object_store.proofs.BorderLemmas.{nth-injective, other_key}
use Rattle.object_store.specs.Run.{numbered}

abbrev nth : ℕ → Value
nth k = Int (pos (k + 1))

same_key : (k : Value) → value_eq k k ≡ true
same_key k = (value_eq-Decides k k).1 refl

later_key : (i j : ℕ) → i < j → value_eq (nth j) (nth i) ≡ false
later_key i j h = other_key (nth j) (nth i) (λ e. let s = nth-injective j i e in omega (arith, h, s))

nth_is : (i j k : ℕ) → i + j ≡ k → nth (i + j) ≡ nth k
nth_is i j k e = ap nth e

-- a key of the run finds the value at its place
pub lookup-run : (vs : List Value) (es : List (Value × Value)) (i j k : ℕ) → i + j ≡ k → j < length vs → lookup (value_eq (nth k)) (numbered i vs ++ es) ≡ slice_get vs j
lookup-run [] es i j k e h = absurd (omega (arith, h))
lookup-run (v ∷ vs) es i zero k e h =
    let same : i ≡ k = omega (arith, e) in
    ap (λ b. cond b (Some v) (lookup (value_eq (nth k)) (numbered (i + 1) vs ++ es))) (ap (λ n. value_eq (nth k) (nth n)) same ∙ same_key (nth k))
lookup-run (v ∷ vs) es i (suc j) k e h =
    let later : i < k = omega (arith, e) in
    ap (λ b. cond b (Some v) (lookup (value_eq (nth k)) (numbered (i + 1) vs ++ es))) (later_key i k later)
    ∙ lookup-run vs es (i + 1) j k (omega (arith, e)) (omega (arith, h))

-- another key is looked up past the run
pub lookup-past_run : (vs : List Value) (es : List (Value × Value)) (i : ℕ) (key : Value) → ((k : ℕ) → i ≤ k → k < i + length vs → key ≢ nth k) → lookup (value_eq key) (numbered i vs ++ es) ≡ lookup (value_eq key) es
lookup-past_run [] es i key off = refl
lookup-past_run (v ∷ vs) es i key off =
    ap (λ b. cond b (Some v) (lookup (value_eq key) (numbered (i + 1) vs ++ es))) (other_key key (nth i) (off i (omega arith) (omega arith)))
    ∙ lookup-past_run vs es (i + 1) key (λ k h l. off k (omega (arith, h)) (omega (arith, l)))

-- a write at a place of the run
pub set_value-run : (vs : List Value) (es : List (Value × Value)) (w : Value) (i j k : ℕ) → i + j ≡ k → j < length vs → set_value (value_eq (nth k)) (numbered i vs ++ es) w ≡ numbered i (slice_set vs j w) ++ es
set_value-run [] es w i j k e h = absurd (omega (arith, h))
set_value-run (v ∷ vs) es w i zero k e h =
    let same : i ≡ k = omega (arith, e) in
    ap (λ b. cond b ((nth i, w) ∷ numbered (i + 1) vs ++ es) ((nth i, v) ∷ set_value (value_eq (nth k)) (numbered (i + 1) vs ++ es) w)) (ap (λ n. value_eq (nth k) (nth n)) same ∙ same_key (nth k))
set_value-run (v ∷ vs) es w i (suc j) k e h =
    let later : i < k = omega (arith, e) in
    ap (λ b. cond b ((nth i, w) ∷ numbered (i + 1) vs ++ es) ((nth i, v) ∷ set_value (value_eq (nth k)) (numbered (i + 1) vs ++ es) w)) (later_key i k later)
    ∙ ap (λ l. (nth i, v) ∷ l) (set_value-run vs es w (i + 1) j k (omega (arith, e)) (omega (arith, h)))

-- a value that is pushed is the pair of the next key
pub numbered-push : (vs : List Value) (v : Value) (i k : ℕ) → i + length vs ≡ k → numbered i (vs ++ v ∷ []) ≡ numbered i vs ++ (nth k, v) ∷ []
numbered-push [] v i k e = let same : i ≡ k = omega (arith, e) in ap (λ n. (nth n, v) ∷ []) same
numbered-push (x ∷ vs) v i k e = ap (λ l. (nth i, x) ∷ l) (numbered-push vs v (i + 1) k (omega (arith, e)))

pub get_pair-run : (vs : List Value) (es : List (Value × Value)) (j : ℕ) (key : Value) → j < length vs → key ≡ nth j → get_or vs j Nil ≡ get_pair (numbered 0 vs ++ es) key
get_pair-run vs es j key h e =
    let found = lookup-run vs es 0 j j (omega arith) h in
    sym (ap (get_pair (numbered 0 vs ++ es)) e ∙ ap (λ r. unwrap_or r Nil) (found ∙ slice_get-get_or vs j Nil h))

pub get_pair-past_run : (vs : List Value) (es : List (Value × Value)) (key : Value) → ((k : ℕ) → k < length vs → key ≢ nth k) → get_pair es key ≡ get_pair (numbered 0 vs ++ es) key
get_pair-past_run vs es key off = sym (ap (λ r. unwrap_or r Nil) (lookup-past_run vs es 0 key (λ k h l. off k (omega (arith, l)))))

-- the pair at a place
pub pair-run : (vs : List Value) (es : List (Value × Value)) (i j k : ℕ) → i + j ≡ k → j < length vs → slice_get (numbered i vs ++ es) j ≡ Some (nth k, get_or vs j Nil)
pair-run [] es i j k e h = absurd (omega (arith, h))
pair-run (v ∷ vs) es i zero k e h = let same : i ≡ k = omega (arith, e) in ap (λ n. Some (nth n, v)) same
pair-run (v ∷ vs) es i (suc j) k e h = pair-run vs es (i + 1) j k (omega (arith, e)) (omega (arith, h))

pub pair-past : (vs : List Value) (es : List (Value × Value)) (i j m : ℕ) → m ≡ length vs + j → slice_get (numbered i vs ++ es) m ≡ slice_get es j
pair-past [] es i j m e = let same : m ≡ j = omega (arith, e) in ap (slice_get es) same
pair-past (v ∷ vs) es i j zero e = absurd (omega (arith, e))
pair-past (v ∷ vs) es i j (suc m) e = pair-past vs es (i + 1) j m (omega (arith, e))

pub length-numbered : (vs : List Value) (i : ℕ) → length (numbered i vs) ≡ length vs
length-numbered [] i = refl
length-numbered (v ∷ vs) i = ap suc (length-numbered vs (i + 1))

none_from_not_some : (r : Option Value) → is_some r ≡ false → r ≡ None
none_from_not_some None h = refl
none_from_not_some (Some v) h = absurd (true≢false h)

-- a write past the run
pub set_value-past_run : (vs : List Value) (es : List (Value × Value)) (w : Value) (i : ℕ) (key : Value) → ((k : ℕ) → i ≤ k → k < i + length vs → key ≢ nth k) → set_value (value_eq key) (numbered i vs ++ es) w ≡ numbered i vs ++ set_value (value_eq key) es w
set_value-past_run [] es w i key off = refl
set_value-past_run (v ∷ vs) es w i key off =
    ap (λ b. cond b ((nth i, w) ∷ numbered (i + 1) vs ++ es) ((nth i, v) ∷ set_value (value_eq key) (numbered (i + 1) vs ++ es) w)) (other_key key (nth i) (off i (omega arith) (omega arith)))
    ∙ ap (λ l. (nth i, v) ∷ l) (set_value-past_run vs es w (i + 1) key (λ k h l. off k (omega (arith, h)) (omega (arith, l))))

suc_more : (j : ℕ) → suc (j + 1) ≡ suc j + 1
suc_more j = omega arith

-- the pairs after one of the run
pub rest_after-run : (vs : List Value) (es : List (Value × Value)) (i j k : ℕ) → i + j ≡ k → j < length vs → rest_after (nth k) (numbered i vs ++ es) ≡ Some (drop (j + 1) (numbered i vs ++ es))
rest_after-run [] es i j k e h = absurd (omega (arith, h))
rest_after-run (v ∷ vs) es i zero k e h =
    let same : i ≡ k = omega (arith, e) in
    ap (λ b. if b then Some (numbered (i + 1) vs ++ es) else rest_after (nth k) (numbered (i + 1) vs ++ es)) (ap (λ n. value_eq (nth k) (nth n)) same ∙ same_key (nth k))
rest_after-run (v ∷ vs) es i (suc j) k e h =
    let later : i < k = omega (arith, e) in
    ap (λ b. if b then Some (numbered (i + 1) vs ++ es) else rest_after (nth k) (numbered (i + 1) vs ++ es)) (later_key i k later)
    ∙ rest_after-run vs es (i + 1) j k (omega (arith, e)) (omega (arith, h))
    ∙ ap (λ n. Some (drop n ((nth i, v) ∷ (numbered (i + 1) vs ++ es)))) (suc_more j)

pub rest_after-past_run : (vs : List Value) (es : List (Value × Value)) (i : ℕ) (key : Value) → ((k : ℕ) → i ≤ k → k < i + length vs → key ≢ nth k) → rest_after key (numbered i vs ++ es) ≡ rest_after key es
rest_after-past_run [] es i key off = refl
rest_after-past_run (v ∷ vs) es i key off =
    ap (λ b. if b then Some (numbered (i + 1) vs ++ es) else rest_after key (numbered (i + 1) vs ++ es)) (other_key key (nth i) (off i (omega arith) (omega arith)))
    ∙ rest_after-past_run vs es (i + 1) key (λ k h l. off k (omega (arith, h)) (omega (arith, l)))

pub drop-past_run : (vs : List Value) (es : List (Value × Value)) (i j m : ℕ) → m ≡ length vs + j → drop m (numbered i vs ++ es) ≡ drop j es
drop-past_run [] es i j m e = let same : m ≡ j = omega (arith, e) in ap (λ n. drop n es) same
drop-past_run (v ∷ vs) es i j zero e = absurd (omega (arith, e))
drop-past_run (v ∷ vs) es i j (suc m) e = drop-past_run vs es (i + 1) j m (omega (arith, e))

pub length-joined : (vs : List Value) (es : List (Value × Value)) → length (numbered 0 vs ++ es) ≡ length vs + length es
length-joined vs es = omega (arith, length-append (numbered 0 vs) es, length-numbered vs 0)

-- the key of a place of the run, and a key of none
module _ (vs : List Value) (es : List (Value × Value)) (key : Value) where
  module _ (i : ℕ) (within : i < length vs) (at : key ≡ nth i) where
    pub lookup-in_run : slice_get vs i ≡ lookup (value_eq key) (numbered 0 vs ++ es)
    lookup-in_run = sym (ap (λ k. lookup (value_eq k) (numbered 0 vs ++ es)) at ∙ lookup-run vs es 0 i i (omega arith) within)

    pub set_value-in_run : (w : Value) → numbered 0 (slice_set vs i w) ++ es ≡ set_value (value_eq key) (numbered 0 vs ++ es) w
    set_value-in_run w = sym (ap (λ k. set_value (value_eq k) (numbered 0 vs ++ es) w) at ∙ set_value-run vs es w 0 i i (omega arith) within)

    pub rest_after-in_run : rest_after key (numbered 0 vs ++ es) ≡ Some (drop (i + 1) (numbered 0 vs ++ es))
    rest_after-in_run = ap (λ k. rest_after k (numbered 0 vs ++ es)) at ∙ rest_after-run vs es 0 i i (omega arith) within

  module _ (off : (k : ℕ) → k < length vs → key ≢ nth k) where
    pub lookup-off_run : lookup (value_eq key) es ≡ lookup (value_eq key) (numbered 0 vs ++ es)
    lookup-off_run = sym (lookup-past_run vs es 0 key (λ k h l. off k (omega (arith, l))))

    pub set_value-off_run : (w : Value) (fs : List (Value × Value)) → fs ≡ set_value (value_eq key) es w → numbered 0 vs ++ fs ≡ set_value (value_eq key) (numbered 0 vs ++ es) w
    set_value-off_run w fs made = ap (λ l. numbered 0 vs ++ l) made ∙ sym (set_value-past_run vs es w 0 key (λ k h l. off k (omega (arith, l))))

    pub rest_after-off_run : rest_after key (numbered 0 vs ++ es) ≡ rest_after key es
    rest_after-off_run = rest_after-past_run vs es 0 key (λ k h l. off k (omega (arith, l)))

-- a pair that is added last
lookup-right : (t : Value → Bool) (xs es : List (Value × Value)) → lookup t (xs ++ es) ≡ None → lookup t es ≡ None
lookup-right t [] es h = h
lookup-right t (x ∷ xs) es h = by (t x.0) h (lookup-right t xs es)
  where
    by : (b : Bool) → cond b (Some x.1) (lookup t (xs ++ es)) ≡ None → (lookup t (xs ++ es) ≡ None → lookup t es ≡ None) → lookup t es ≡ None
    by true j rest = absurd (none-some _ (sym j))
    by false j rest = rest j

pub push_last : (vs : List Value) (es : List (Value × Value)) (key v : Value) → length es ≡ 0 → key ≡ nth (length vs) → numbered 0 (vs ++ v ∷ []) ++ es ≡ (numbered 0 vs ++ es) ++ (key, v) ∷ []
push_last vs [] key v none at =
    append-nil (numbered 0 (vs ++ v ∷ [])) ∙ numbered-push vs v 0 (length vs) (omega arith)
    ∙ ap (λ k. numbered 0 vs ++ (k, v) ∷ []) (sym at) ∙ ap (λ l. l ++ (key, v) ∷ []) (sym (append-nil (numbered 0 vs)))
push_last vs (e ∷ es) key v none at = absurd (omega (arith, none))

pub absent_later : (vs : List Value) (es : List (Value × Value)) (key : Value) → lookup (value_eq key) (numbered 0 vs ++ es) ≡ None → lookup (value_eq key) es ≡ None
absent_later vs es key = lookup-right (value_eq key) (numbered 0 vs) es

pub add_last : (vs : List Value) (es fs : List (Value × Value)) (key v : Value) → fs ≡ es ++ (key, v) ∷ [] → numbered 0 vs ++ fs ≡ (numbered 0 vs ++ es) ++ (key, v) ∷ []
add_last vs es fs key v made =
    ap (λ l. numbered 0 vs ++ l) made
    ∙ sym (append_assoc (numbered 0 vs) es ((key, v) ∷ []))

-- the purge keeps the run up to its first dead value
pub kept_is : (vs : List Value) → unwrap_or (position is_nil vs) (length vs) ≡ position_or_len is_nil vs
kept_is vs = by (nat_lt (position_or_len is_nil vs) (length vs)) refl
  where
    by : (b : Bool) → nat_lt (position_or_len is_nil vs) (length vs) ≡ b → unwrap_or (cond b (Some (position_or_len is_nil vs)) None) (length vs) ≡ position_or_len is_nil vs
    by true h = refl
    by false h = let all : length vs ≤ position_or_len is_nil vs = ltb-false _ _ h in omega (arith, all, prefix_len-le-length (λ v. not (is_nil v)) vs)

one_more_than : (n : ℕ) → 1 + n ≡ suc n
one_more_than n = omega arith

pub filter-kept : (vs : List Value) (es : List (Value × Value)) (i : ℕ) → numbered i (take (position_or_len is_nil vs) vs) ++ filter is_live (drop (position_or_len is_nil vs) (numbered i vs ++ es)) ≡ filter is_live (numbered i vs ++ es)
filter-kept [] es i = refl
filter-kept (v ∷ vs) es i = by (is_nil v) refl (filter-kept vs es (i + 1))
  where
    by : (b : Bool) → is_nil v ≡ b → numbered (i + 1) (take (position_or_len is_nil vs) vs) ++ filter is_live (drop (position_or_len is_nil vs) (numbered (i + 1) vs ++ es)) ≡ filter is_live (numbered (i + 1) vs ++ es)
        → numbered i (take (cond (not b) (1 + position_or_len is_nil vs) 0) (v ∷ vs)) ++ filter is_live (drop (cond (not b) (1 + position_or_len is_nil vs) 0) ((nth i, v) ∷ (numbered (i + 1) vs ++ es)))
        ≡ cond (not b) ((nth i, v) ∷ filter is_live (numbered (i + 1) vs ++ es)) (filter is_live (numbered (i + 1) vs ++ es))
    by true h rest = ap (λ b. cond (not b) ((nth i, v) ∷ filter is_live (numbered (i + 1) vs ++ es)) (filter is_live (numbered (i + 1) vs ++ es))) h
    by false h rest =
        ap (λ m. numbered i (take m (v ∷ vs)) ++ filter is_live (drop m ((nth i, v) ∷ (numbered (i + 1) vs ++ es)))) (one_more_than (position_or_len is_nil vs))
        ∙ ap (λ l. (nth i, v) ∷ l) rest

-- the keys of a front are distinct
all_front : (P : Value → Type 0) (xs ys : List (Value × Value)) → AllByRecursion P (keys_of (xs ++ ys)) → AllByRecursion P (keys_of xs)
all_front P [] ys h = tt
all_front P (x ∷ xs) ys h = (h.0, all_front P xs ys h.1)

pub distinct-front : (xs ys : List (Value × Value)) → IsDistinct value_eq (keys_of (xs ++ ys)) → IsDistinct value_eq (keys_of xs)
unfolding IsDistinct
distinct-front [] ys h = tt
distinct-front (x ∷ xs) ys h = (all_front (λ k. value_eq x.0 k ≡ false) xs ys h.0, distinct-front xs ys h.1)

-- one step of a copy of the live pairs from a place on
module _ (es : List (Value × Value)) (i : ℕ) (p : Value × Value) (here : slice_get es i ≡ Some p) where
  from_here : drop i es ≡ p ∷ drop (i + 1) es
  from_here = drop-cons es i p (slice_get_within es i p here) ∙ ap (λ q. q ∷ drop (suc i) es) (get_or_from_slice_get es i p p here) ∙ ap (λ n. p ∷ drop n es) (suc_is i)
    where
      suc_is : (n : ℕ) → suc n ≡ n + 1
      suc_is n = omega arith

  filter-from : (b : Bool) → is_nil p.1 ≡ b → filter is_live (drop i es) ≡ cond (not b) (p ∷ filter is_live (drop (i + 1) es)) (filter is_live (drop (i + 1) es))
  filter-from b h = ap (filter is_live) from_here ∙ ap (λ c. cond (not c) (p ∷ filter is_live (drop (i + 1) es)) (filter is_live (drop (i + 1) es))) h

  module _ (live all : List (Value × Value)) (so_far : live ++ filter is_live (drop i es) ≡ all) where
    pub copy_skips : is_nil p.1 ≡ true → live ++ filter is_live (drop (i + 1) es) ≡ all
    copy_skips dead = sym (ap (λ l. live ++ l) (filter-from true dead)) ∙ so_far

    module _ (distinct : IsDistinct value_eq (keys_of all)) (alive : is_nil p.1 ≡ false) where
      split : live ++ p ∷ filter is_live (drop (i + 1) es) ≡ all
      split = sym (ap (λ l. live ++ l) (filter-from false alive)) ∙ so_far

      split_distinct : IsDistinct value_eq (keys_of (live ++ p ∷ filter is_live (drop (i + 1) es)))
      split_distinct = subst (λ l. IsDistinct value_eq (keys_of l)) (sym split) distinct

      pub copy_absent : lookup (value_eq p.0) live ≡ None
      copy_absent = absent_before value_eq-laws live (filter is_live (drop (i + 1) es)) p split_distinct

      pub copy_distinct : IsDistinct value_eq (keys_of live)
      copy_distinct = distinct-front live (p ∷ filter is_live (drop (i + 1) es)) split_distinct

      pub copy_takes : (more : List (Value × Value)) → more ≡ live ++ p ∷ [] → more ++ filter is_live (drop (i + 1) es) ≡ all
      copy_takes more made = ap (λ l. l ++ filter is_live (drop (i + 1) es)) made ∙ append_assoc live (p ∷ []) (filter is_live (drop (i + 1) es)) ∙ split

distinct-drop : (n : ℕ) (es : List (Value × Value)) → IsDistinct value_eq (keys_of es) → IsDistinct value_eq (keys_of (drop n es))
distinct-drop zero es h = h
distinct-drop (suc n) [] h = h
distinct-drop (suc n) (e ∷ es) h = distinct-drop n es (IsDistinct-tail value_eq e.0 (keys_of es) h)

pub distinct-live : (n : ℕ) (es : List (Value × Value)) → IsDistinct value_eq (keys_of es) → IsDistinct value_eq (keys_of (filter is_live (drop n es)))
distinct-live n es h = IsDistinct-keys_filter value_eq is_live (drop n es) (distinct-drop n es h)

pub distinct-later : (vs : List Value) (es : List (Value × Value)) → IsDistinct value_eq (keys_of (numbered 0 vs ++ es)) → IsDistinct value_eq (keys_of es)
distinct-later vs es h = subst (λ l. IsDistinct value_eq (keys_of l)) (drop-past_run vs es 0 0 (length vs) (omega arith)) (distinct-drop (length vs) (numbered 0 vs ++ es) h)

none-drop : (t : Value → Bool) (n : ℕ) (es : List (Value × Value)) → lookup t es ≡ None → lookup t (drop n es) ≡ None
none-drop t zero es h = h
none-drop t (suc n) [] h = h
none-drop t (suc n) (e ∷ es) h = by (t e.0) h (none-drop t n es)
  where
    by : (b : Bool) → cond b (Some e.1) (lookup t es) ≡ None → (lookup t es ≡ None → lookup t (drop n es) ≡ None) → lookup t (drop n es) ≡ None
    by true j rest = absurd (none-some _ (sym j))
    by false j rest = rest j

-- a key without a pair has none among the live ones from a place on
pub absent_live : (vs : List Value) (es : List (Value × Value)) (key : Value) (n : ℕ) → lookup (value_eq key) (numbered 0 vs ++ es) ≡ None → lookup (value_eq key) (filter is_live (drop n (numbered 0 vs ++ es))) ≡ None
absent_live vs es key n none = none_from_not_some _ (has_pair-filter key (drop n (numbered 0 vs ++ es)) (ap is_some (none-drop (value_eq key) n (numbered 0 vs ++ es) none)))

-- the run up to its first dead value, the other live pairs and the new one are the purged list with the new pair
pub purged_last : (vs us : List Value) (es live fs : List (Value × Value)) (key v : Value) (n : ℕ)
    → n ≡ position_or_len is_nil vs → us ≡ take n vs
    → live ≡ filter is_live (drop n (numbered 0 vs ++ es)) → fs ≡ live ++ (key, v) ∷ []
    → numbered 0 us ++ fs ≡ filter is_live (numbered 0 vs ++ es) ++ (key, v) ∷ []
purged_last vs us es live fs key v n at kept copied made =
    ap (λ l. numbered 0 l ++ fs) kept
    ∙ ap (λ l. numbered 0 (take n vs) ++ l) (made ∙ ap (λ l. l ++ (key, v) ∷ []) copied)
    ∙ sym (append_assoc (numbered 0 (take n vs)) (filter is_live (drop n (numbered 0 vs ++ es))) ((key, v) ∷ []))
    ∙ ap (λ l. l ++ (key, v) ∷ []) (ap (λ m. numbered 0 (take m vs) ++ filter is_live (drop m (numbered 0 vs ++ es))) at ∙ filter-kept vs es 0)

pub drop_past : (es : List (Value × Value)) (i : ℕ) → length es ≤ i → drop i es ≡ []
drop_past [] zero h = refl
drop_past [] (suc i) h = refl
drop_past (e ∷ es) zero h = absurd (omega (arith, h))
drop_past (e ∷ es) (suc i) h = drop_past es i (omega (arith, h))

pub copy_ends : (es : List (Value × Value)) (i : ℕ) (live all : List (Value × Value)) → live ++ filter is_live (drop i es) ≡ all → length es ≤ i → live ≡ all
copy_ends es i live all so_far past = sym (append-nil live) ∙ ap (λ l. live ++ filter is_live l) (sym (drop_past es i past)) ∙ so_far

-- the place of a key that the map has
pub place_later : (vs : List Value) (es : List (Value × Value)) (key : Value) (i : ℕ) → Some i ≡ position (value_eq key) (keys_of es) → rest_after key es ≡ Some (drop (length vs + i + 1) (numbered 0 vs ++ es))
place_later vs es key i at =
    rest_after-place key es (sym (some_index (value_eq key) es) ∙ ap is_some (sym at)) ∙ ap (λ n. Some (drop (n + 1) es)) (place_is (value_eq key) (keys_of es) i at)
    ∙ ap Some (sym (drop-past_run vs es 0 (i + 1) (length vs + i + 1) (omega arith)))

pub on_some : {A : Type 0} (r : Option A) (P Q : Type 0) → (P → Q) → OnSome r P → OnSome r Q
on_some None P Q f h = tt
on_some (Some v) P Q f h = f h

pub joined_same : (vs us : List Value) (es fs : List (Value × Value)) → us ≡ vs → fs ≡ es → numbered 0 us ++ fs ≡ numbered 0 vs ++ es
joined_same vs us es fs run rest = λ j. numbered 0 (run j) ++ rest j

pub prefix_le : (vs : List Value) (n : ℕ) → n ≡ position_or_len is_nil vs → n ≤ length vs
prefix_le vs n at = let most : position_or_len is_nil vs ≤ length vs = prefix_len-le-length (λ v. not (is_nil v)) vs in omega (arith, at, most)

pub none_later : (es : List (Value × Value)) (key : Value) → None ≡ position (value_eq key) (keys_of es) → is_some (lookup (value_eq key) es) ≡ false
none_later es key at = sym (some_index (value_eq key) es) ∙ ap is_some (sym at)

pub place_within : (vs : List Value) (es : List (Value × Value)) (key : Value) (i : ℕ) → Some i ≡ position (value_eq key) (keys_of es) → i < length es
place_within vs es key i at = omega (arith, (position-Some (value_eq key) (keys_of es) i key (sym at)).0, length-map es (λ (e : Value × Value). e.0))
