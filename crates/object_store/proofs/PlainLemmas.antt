-- The plain heap of a closed state: interning changes nothing of it, equal bytes are equal values, and reading, setting,
-- walking and the border commute with it.
use Rattle.std.proofs.Common.{◌≡◌, ◌≢◌, ◌∙◌, ℕ, suc, ◌+◌, ◌<◌, pos, Bool, true, false, cond, not, ◌&&◌, if◌then◌else◌, nat_lt, List, [], ◌∷◌, ◌++◌, map, filter, length, get_or, All, Option, None, Some, is_some, refl, ap, sym, subst, arith, true≢false}
use Rattle.std.specs.List.{count_by, IsDistinct, list_any}
use Rattle.std.specs.Map.{lookup, set_value, values_of}
use Rattle.std.specs.Option.{unwrap_or, option_map}
use Rattle.std.specs.Str.{bytes_eq}
use Rattle.std.proofs.lemmas.List.{map-append, get_or_append_left}
use Rattle.std.proofs.lemmas.List.Sums.{sum_by-cons}
use Rattle.std.proofs.lemmas.Option.{slice_get-get_or}
use Rattle.std.proofs.lemmas.Slice.Eq.{bytes_eq-Decides}
use Rattle.lanes_arena.specs.Names.{named}
use Rattle.lanes_arena.proofs.NameLemmas.{one_number}
use Rattle.object_store.specs.declared.value.Value.{Value}
use Rattle.object_store.specs.declared.value.Value.TheVariants.{Nil, False, True, Int, Str, Table, Func, Lib, Linda, Lane, Light}
use Rattle.object_store.specs.Value.{value_eq, is_nil}
use Rattle.object_store.specs.Pairs.{get_pair, set_pair, has_pair, purged, is_live, live_count, dead_count, first_live, rest_after, next_pair, IsBorder}
use Rattle.object_store.specs.Table.{Contents}
use Rattle.object_store.specs.Heap.{Shown}
use Rattle.object_store.specs.Closed.{Bounds, bounds_of, IsWithin, IsPairWithin, IsTableWithin, IsCellWithin, IsClosed}
use Rattle.object_store.proofs.ValueLemmas.{value_eq-Decides}
use Rattle.object_store.proofs.BorderLemmas.{nil_from_is_nil}
use Rattle.object_store.specs.Plain.{PlainValue, PlainPair, plain, plain_pair, plain_pairs, plain_table, plain_function, plain_cell, plain_of, plain_heap, plain_eq, plain_nil, is_plain_nil, plain_get, is_plain_live, plain_dead_count, plain_live_count, plain_purged, plain_set, plain_first_live, plain_rest_after, plain_next, IsPlainBorder}

-- interning

pub longer_text : (texts : List (List ℕ)) (text : List ℕ) (n : ℕ) → n < length texts → get_or (named texts text) n [] ≡ get_or texts n []
longer_text texts text n within = by (list_any (bytes_eq text) texts)
  where
    by : (b : Bool) → get_or (if b then texts else texts ++ text ∷ []) n [] ≡ get_or texts n []
    by true = refl
    by false = get_or_append_left texts (text ∷ []) [] n within

-- a value that belongs stands for the same once a further text is interned
pub plain-named : (b : Bounds) (texts : List (List ℕ)) (text : List ℕ) → b.texts ≡ length texts → (v : Value) → IsWithin b v → plain (named texts text) v ≡ plain texts v
plain-named b texts text same Nil h = refl
plain-named b texts text same False h = refl
plain-named b texts text same True h = refl
plain-named b texts text same (Int _) h = refl
plain-named b texts text same (Str id) h = ap (λ t. record { shape = Str (record { number = 0 }); text = t }) (longer_text texts text id.number (omega (arith, h, same)))
plain-named b texts text same (Table _) h = refl
plain-named b texts text same (Func _) h = refl
plain-named b texts text same (Lib _) h = refl
plain-named b texts text same (Linda _) h = refl
plain-named b texts text same (Lane _) h = refl
plain-named b texts text same (Light _) h = refl

map_same : {A B : Type 0} (P : A → Type 0) (f g : A → B) → ((x : A) → P x → f x ≡ g x) → (xs : List A) → All P xs → map f xs ≡ map g xs
map_same P f g same [] all = refl
map_same P f g same (x ∷ xs) all = λ j. same x (all 0 x (omega arith)) j ∷ map_same P f g same xs (λ k d lt. all (suc k) d (omega (arith, lt))) j

-- interning changes nothing of the plain heap of a closed state
pub plain_of-named : (s : Shown) (text : List ℕ) → IsClosed s → plain_of (named s.texts text) s.heap ≡ plain_heap s
plain_of-named s text closed = λ j. record {
  number = s.heap.number;
  tables = map_same (IsTableWithin bounds) (plain_table more) (plain_table s.texts) table_same s.heap.tables closed.tables j;
  functions = map plain_function s.heap.functions;
  cells = map_same (IsCellWithin bounds) (plain_cell more) (plain_cell s.texts) (λ c fits. value_same c.content fits) s.heap.cells closed.cells j;
  string_meta = option_map (λ id. id.number) s.heap.string_meta;
  lanes_table = option_map (λ id. id.number) s.heap.lanes_table;
}
  where
    bounds : Bounds
    bounds = bounds_of s

    more : List (List ℕ)
    more = named s.texts text

    value_same : (v : Value) → IsWithin bounds v → plain more v ≡ plain s.texts v
    value_same = plain-named bounds s.texts text refl

    pair_same : (p : Value × Value) → IsPairWithin bounds p → plain_pair more p ≡ plain_pair s.texts p
    pair_same p fits = λ j. (value_same p.0 fits.0 j, value_same p.1 fits.1 j)

    table_same : (t : Contents) → IsTableWithin bounds t → plain_table more t ≡ plain_table s.texts t
    table_same t fits = λ j. record { pairs = map_same (IsPairWithin bounds) (plain_pair more) (plain_pair s.texts) pair_same t.pairs fits.pairs j; meta = option_map (λ id. id.number) t.meta }

-- equal bytes are equal values

is_string : Value → Bool
is_string (Str _) = true
is_string _ = false

string_number : Value → ℕ
string_number (Str id) = id.number
string_number _ = 0

other_shape : (texts : List (List ℕ)) (v : Value) → is_string v ≡ false → (plain texts v).shape ≡ v
unfolding is_string
other_shape texts Nil h = refl
other_shape texts False h = refl
other_shape texts True h = refl
other_shape texts (Int _) h = refl
other_shape texts (Str _) h = absurd (true≢false h)
other_shape texts (Table _) h = refl
other_shape texts (Func _) h = refl
other_shape texts (Lib _) h = refl
other_shape texts (Linda _) h = refl
other_shape texts (Lane _) h = refl
other_shape texts (Light _) h = refl

shape_string : (texts : List (List ℕ)) (v : Value) → is_string (plain texts v).shape ≡ is_string v
unfolding is_string
shape_string texts Nil = refl
shape_string texts False = refl
shape_string texts True = refl
shape_string texts (Int _) = refl
shape_string texts (Str _) = refl
shape_string texts (Table _) = refl
shape_string texts (Func _) = refl
shape_string texts (Lib _) = refl
shape_string texts (Linda _) = refl
shape_string texts (Lane _) = refl
shape_string texts (Light _) = refl

string_is : (v : Value) → is_string v ≡ true → v ≡ Str (record { number = string_number v })
unfolding is_string string_number
string_is Nil h = absurd (true≢false (sym h))
string_is False h = absurd (true≢false (sym h))
string_is True h = absurd (true≢false (sym h))
string_is (Int _) h = absurd (true≢false (sym h))
string_is (Str _) h = refl
string_is (Table _) h = absurd (true≢false (sym h))
string_is (Func _) h = absurd (true≢false (sym h))
string_is (Lib _) h = absurd (true≢false (sym h))
string_is (Linda _) h = absurd (true≢false (sym h))
string_is (Lane _) h = absurd (true≢false (sym h))
string_is (Light _) h = absurd (true≢false (sym h))

-- under distinct texts, two values that belong and stand for one plain value are one
pub plain-injective : (b : Bounds) (texts : List (List ℕ)) → b.texts ≡ length texts → IsDistinct bytes_eq texts → (v w : Value) → IsWithin b v → IsWithin b w → plain texts v ≡ plain texts w → v ≡ w
plain-injective b texts same distinct v w v_fits w_fits e = by (is_string v) refl
  where
    kinds : is_string v ≡ is_string w
    kinds = sym (shape_string texts v) ∙ ap (λ p. is_string p.shape) e ∙ shape_string texts w

    by : (c : Bool) → is_string v ≡ c → v ≡ w
    by false h = sym (other_shape texts v h) ∙ ap (λ p. p.shape) e ∙ other_shape texts w (sym kinds ∙ h)
    by true h =
        let v_is = string_is v h in
        let w_is = string_is w (sym kinds ∙ h) in
        let v_in : string_number v < length texts = omega (arith, same, subst (IsWithin b) v_is v_fits) in
        let w_in : string_number w < length texts = omega (arith, same, subst (IsWithin b) w_is w_fits) in
        let bytes : get_or texts (string_number v) [] ≡ get_or texts (string_number w) [] = sym (ap (λ x. (plain texts x).text) v_is) ∙ ap (λ p. p.text) e ∙ ap (λ x. (plain texts x).text) w_is in
        let one : string_number v ≡ string_number w = one_number texts (string_number v) (string_number w) (get_or texts (string_number v) []) distinct
        (slice_get-get_or texts (string_number v) [] v_in) (slice_get-get_or texts (string_number w) [] w_in ∙ ap Some (sym bytes)) in
        v_is ∙ ap (λ n. Str (record { number = n })) one ∙ sym w_is

plain_eq-true : (p q : PlainValue) → plain_eq p q ≡ true → p ≡ q
plain_eq-true p q h = by (value_eq p.shape q.shape) (bytes_eq p.text q.text) refl refl h
  where
    by : (c d : Bool) → value_eq p.shape q.shape ≡ c → bytes_eq p.text q.text ≡ d → (c && d) ≡ true → p ≡ q
    by true true e f g = let shapes = (value_eq-Decides p.shape q.shape).0 e in let texts = (bytes_eq-Decides p.text q.text).0 f in λ j. record { shape = shapes j; text = texts j }
    by true false e f g = absurd (true≢false (sym g))
    by false d e f g = absurd (true≢false (sym g))

plain_eq-same : (p q : PlainValue) → p ≡ q → plain_eq p q ≡ true
plain_eq-same p q e = ap (λ c. c && bytes_eq p.text q.text) ((value_eq-Decides p.shape q.shape).1 (ap (λ x. x.shape) e)) ∙ (bytes_eq-Decides p.text q.text).1 (ap (λ x. x.text) e)

module _ (b : Bounds) (texts : List (List ℕ)) (same : b.texts ≡ length texts) (distinct : IsDistinct bytes_eq texts) where
  -- values are equal exactly where their plain values are
  pub eq-plain : (v w : Value) → IsWithin b v → IsWithin b w → value_eq v w ≡ plain_eq (plain texts v) (plain texts w)
  eq-plain v w v_fits w_fits = by (value_eq v w) (plain_eq (plain texts v) (plain texts w)) refl refl
    where
      by : (c d : Bool) → value_eq v w ≡ c → plain_eq (plain texts v) (plain texts w) ≡ d → c ≡ d
      by true true e f = refl
      by false false e f = refl
      by true false e f = sym (plain_eq-same _ _ (ap (plain texts) ((value_eq-Decides v w).0 e))) ∙ f
      by false true e f = sym e ∙ (value_eq-Decides v w).1 (plain-injective b texts same distinct v w v_fits w_fits (plain_eq-true _ _ f))

  nil-plain : (v : Value) → is_nil v ≡ is_plain_nil (plain texts v)
  nil-plain Nil = refl
  nil-plain False = refl
  nil-plain True = refl
  nil-plain (Int _) = refl
  nil-plain (Str _) = refl
  nil-plain (Table _) = refl
  nil-plain (Func _) = refl
  nil-plain (Lib _) = refl
  nil-plain (Linda _) = refl
  nil-plain (Lane _) = refl
  nil-plain (Light _) = refl

  tail : (e : Value × Value) (es : List (Value × Value)) → All (IsPairWithin b) (e ∷ es) → All (IsPairWithin b) es
  tail e es all = λ k d lt. all (suc k) d (omega (arith, lt))

  head : (e : Value × Value) (es : List (Value × Value)) → All (IsPairWithin b) (e ∷ es) → IsPairWithin b e
  head e es all = all 0 e (omega arith)

  module _ (key : Value) (fits : IsWithin b key) where
    key_eq : (e : Value × Value) (es : List (Value × Value)) → All (IsPairWithin b) (e ∷ es) → plain_eq (plain texts key) (plain texts e.0) ≡ value_eq key e.0
    key_eq e es all = sym (eq-plain key e.0 fits (head e es all).0)

    lookup-plain : (es : List (Value × Value)) → All (IsPairWithin b) es → lookup (plain_eq (plain texts key)) (plain_pairs texts es) ≡ option_map (plain texts) (lookup (value_eq key) es)
    lookup-plain [] all = refl
    lookup-plain (e ∷ es) all = ap (λ c. cond c (Some (plain texts e.1)) (lookup (plain_eq (plain texts key)) (plain_pairs texts es))) (key_eq e es all) ∙ by (value_eq key e.0) (lookup-plain es (tail e es all))
      where
        by : (c : Bool) → lookup (plain_eq (plain texts key)) (plain_pairs texts es) ≡ option_map (plain texts) (lookup (value_eq key) es)
            → cond c (Some (plain texts e.1)) (lookup (plain_eq (plain texts key)) (plain_pairs texts es)) ≡ option_map (plain texts) (cond c (Some e.1) (lookup (value_eq key) es))
        by true rest = refl
        by false rest = rest

    -- reading commutes
    pub get-plain : (es : List (Value × Value)) → All (IsPairWithin b) es → plain_get (plain_pairs texts es) (plain texts key) ≡ plain texts (get_pair es key)
    get-plain es all = ap (λ r. unwrap_or r plain_nil) (lookup-plain es all) ∙ by (lookup (value_eq key) es)
      where
        by : (r : Option Value) → unwrap_or (option_map (plain texts) r) plain_nil ≡ plain texts (unwrap_or r Nil)
        by None = refl
        by (Some v) = refl

    has-plain : (es : List (Value × Value)) → All (IsPairWithin b) es → is_some (lookup (plain_eq (plain texts key)) (plain_pairs texts es)) ≡ has_pair es key
    has-plain es all = ap is_some (lookup-plain es all) ∙ by (lookup (value_eq key) es)
      where
        by : (r : Option Value) → is_some (option_map (plain texts) r) ≡ is_some r
        by None = refl
        by (Some v) = refl

    set_value-plain : (es : List (Value × Value)) (w : Value) → All (IsPairWithin b) es → set_value (plain_eq (plain texts key)) (plain_pairs texts es) (plain texts w) ≡ plain_pairs texts (set_value (value_eq key) es w)
    set_value-plain [] w all = refl
    set_value-plain (e ∷ es) w all =
        ap (λ c. cond c ((plain texts e.0, plain texts w) ∷ plain_pairs texts es) (plain_pair texts e ∷ set_value (plain_eq (plain texts key)) (plain_pairs texts es) (plain texts w))) (key_eq e es all)
        ∙ by (value_eq key e.0) (set_value-plain es w (tail e es all))
      where
        by : (c : Bool) → set_value (plain_eq (plain texts key)) (plain_pairs texts es) (plain texts w) ≡ plain_pairs texts (set_value (value_eq key) es w)
            → cond c ((plain texts e.0, plain texts w) ∷ plain_pairs texts es) (plain_pair texts e ∷ set_value (plain_eq (plain texts key)) (plain_pairs texts es) (plain texts w))
            ≡ plain_pairs texts (cond c ((e.0, w) ∷ es) (e ∷ set_value (value_eq key) es w))
        by true rest = refl
        by false rest = ap (λ l. plain_pair texts e ∷ l) rest

    rest_after-plain : (es : List (Value × Value)) → All (IsPairWithin b) es → plain_rest_after (plain texts key) (plain_pairs texts es) ≡ option_map (plain_pairs texts) (rest_after key es)
    rest_after-plain [] all = refl
    rest_after-plain (e ∷ es) all =
        ap (λ c. if c then Some (plain_pairs texts es) else plain_rest_after (plain texts key) (plain_pairs texts es)) (key_eq e es all) ∙ by (value_eq key e.0) (rest_after-plain es (tail e es all))
      where
        by : (c : Bool) → plain_rest_after (plain texts key) (plain_pairs texts es) ≡ option_map (plain_pairs texts) (rest_after key es)
            → (if c then Some (plain_pairs texts es) else plain_rest_after (plain texts key) (plain_pairs texts es)) ≡ option_map (plain_pairs texts) (if c then Some es else rest_after key es)
        by true rest = refl
        by false rest = rest

  values-plain : (es : List (Value × Value)) → values_of (plain_pairs texts es) ≡ map (plain texts) (values_of es)
  values-plain [] = refl
  values-plain (e ∷ es) = ap (λ l. plain texts e.1 ∷ l) (values-plain es)

  filter-plain : (es : List (Value × Value)) → filter is_plain_live (plain_pairs texts es) ≡ plain_pairs texts (filter is_live es)
  filter-plain [] = refl
  filter-plain (e ∷ es) = ap (λ c. cond (not c) (plain_pair texts e ∷ filter is_plain_live (plain_pairs texts es)) (filter is_plain_live (plain_pairs texts es))) (sym (nil-plain e.1)) ∙ by (is_nil e.1) (filter-plain es)
    where
      by : (c : Bool) → filter is_plain_live (plain_pairs texts es) ≡ plain_pairs texts (filter is_live es)
          → cond (not c) (plain_pair texts e ∷ filter is_plain_live (plain_pairs texts es)) (filter is_plain_live (plain_pairs texts es)) ≡ plain_pairs texts (cond (not c) (e ∷ filter is_live es) (filter is_live es))
      by true rest = rest
      by false rest = ap (λ l. plain_pair texts e ∷ l) rest

  first_live-plain : (es : List (Value × Value)) → plain_first_live (plain_pairs texts es) ≡ option_map (plain_pair texts) (first_live es)
  first_live-plain [] = refl
  first_live-plain (e ∷ es) = ap (λ c. if not c then Some (plain_pair texts e) else plain_first_live (plain_pairs texts es)) (sym (nil-plain e.1)) ∙ by (is_nil e.1) (first_live-plain es)
    where
      by : (c : Bool) → plain_first_live (plain_pairs texts es) ≡ option_map (plain_pair texts) (first_live es)
          → (if not c then Some (plain_pair texts e) else plain_first_live (plain_pairs texts es)) ≡ option_map (plain_pair texts) (if not c then Some e else first_live es)
      by true rest = rest
      by false rest = refl

  -- walking commutes
  pub next-plain : (key : Value) → IsWithin b key → (es : List (Value × Value)) → All (IsPairWithin b) es → plain_next (plain_pairs texts es) (plain texts key) ≡ option_map (option_map (plain_pair texts)) (next_pair es key)
  next-plain key fits es all =
      ap (λ c. if c then Some (plain_first_live (plain_pairs texts es)) else option_map plain_first_live (plain_rest_after (plain texts key) (plain_pairs texts es))) (sym (nil-plain key))
      ∙ ap (λ r. if is_nil key then Some (plain_first_live (plain_pairs texts es)) else option_map plain_first_live r) (rest_after-plain key fits es all)
      ∙ ap (λ r. if is_nil key then Some r else option_map plain_first_live (option_map (plain_pairs texts) (rest_after key es))) (first_live-plain es)
      ∙ by (is_nil key) (rest_after key es)
    where
      by : (c : Bool) (r : Option (List (Value × Value))) → (if c then Some (option_map (plain_pair texts) (first_live es)) else option_map plain_first_live (option_map (plain_pairs texts) r))
          ≡ option_map (option_map (plain_pair texts)) (if c then Some (first_live es) else option_map first_live r)
      by true r = refl
      by false None = refl
      by false (Some fs) = ap Some (first_live-plain fs)

  -- the border is the same
  pub border-plain : (es : List (Value × Value)) (n : ℕ) → All (IsPairWithin b) es → IsBorder es n → IsPlainBorder (plain_pairs texts es) n
  border-plain es n all held = record {
    full = λ k h. ap is_plain_nil (get-plain (Int (pos (k + 1))) tt es all) ∙ sym (nil-plain (get_pair es (Int (pos (k + 1))))) ∙ live (get_pair es (Int (pos (k + 1)))) (held.full k h);
    ends = ap is_plain_nil (get-plain (Int (pos (n + 1))) tt es all) ∙ ap (λ v. is_plain_nil (plain texts v)) held.ends;
  }
    where
      live : (v : Value) → v ≢ Nil → is_nil v ≡ false
      live v other = by (is_nil v) refl
        where
          by : (c : Bool) → is_nil v ≡ c → c ≡ false
          by true h = absurd (other (nil_from_is_nil v h))
          by false h = refl

  count-plain : (p : PlainValue → Bool) (q : Value → Bool) → ((v : Value) → p (plain texts v) ≡ q v) → (vs : List Value) → count_by p (map (plain texts) vs) ≡ count_by q vs
  count-plain p q alike [] = refl
  count-plain p q alike (v ∷ vs) =
      sum_by-cons (λ x. cond (p x) 1 0) (plain texts v) (map (plain texts) vs)
      ∙ (λ j. cond {A = ℕ} (alike v j) 1 0 + count-plain p q alike vs j)
      ∙ sym (sum_by-cons (λ x. cond (q x) 1 0) v vs)

  purged-plain : (es : List (Value × Value)) → plain_purged (plain_pairs texts es) ≡ plain_pairs texts (purged es)
  purged-plain es =
      ap (λ c. if c then filter is_plain_live (plain_pairs texts es) else plain_pairs texts es) due
      ∙ ap (λ l. if nat_lt (live_count es) (dead_count es) then l else plain_pairs texts es) (filter-plain es)
      ∙ by (nat_lt (live_count es) (dead_count es))
    where
      lives : plain_live_count (plain_pairs texts es) ≡ live_count es
      lives = ap (count_by (λ v. not (is_plain_nil v))) (values-plain es) ∙ count-plain (λ v. not (is_plain_nil v)) (λ v. not (is_nil v)) (λ v. ap not (sym (nil-plain v))) (values_of es)

      deads : plain_dead_count (plain_pairs texts es) ≡ dead_count es
      deads = ap (count_by is_plain_nil) (values-plain es) ∙ count-plain is_plain_nil is_nil (λ v. sym (nil-plain v)) (values_of es)

      due : nat_lt (plain_live_count (plain_pairs texts es)) (plain_dead_count (plain_pairs texts es)) ≡ nat_lt (live_count es) (dead_count es)
      due = λ j. nat_lt (lives j) (deads j)

      by : (c : Bool) → (if c then plain_pairs texts (filter is_live es) else plain_pairs texts es) ≡ plain_pairs texts (if c then filter is_live es else es)
      by true = refl
      by false = refl

  -- setting commutes
  pub set-plain : (key value : Value) → IsWithin b key → (es : List (Value × Value)) → All (IsPairWithin b) es → plain_set (plain_pairs texts es) (plain texts key) (plain texts value) ≡ plain_pairs texts (set_pair es key value)
  set-plain key value fits es all =
      ap (λ c. if c then set_value (plain_eq (plain texts key)) (plain_pairs texts es) (plain texts value) else if is_plain_nil (plain texts value) then plain_pairs texts es else plain_purged (plain_pairs texts es) ++ last) (has-plain key fits es all)
      ∙ ap (λ l. if has_pair es key then l else if is_plain_nil (plain texts value) then plain_pairs texts es else plain_purged (plain_pairs texts es) ++ last) (set_value-plain key fits es value all)
      ∙ ap (λ c. if has_pair es key then plain_pairs texts (set_value (value_eq key) es value) else if c then plain_pairs texts es else plain_purged (plain_pairs texts es) ++ last) (sym (nil-plain value))
      ∙ ap (λ l. if has_pair es key then plain_pairs texts (set_value (value_eq key) es value) else if is_nil value then plain_pairs texts es else l ++ last) (purged-plain es)
      ∙ by (has_pair es key) (is_nil value)
    where
      last : List PlainPair
      last = (plain texts key, plain texts value) ∷ []

      by : (there none : Bool) → (if there then plain_pairs texts (set_value (value_eq key) es value) else if none then plain_pairs texts es else plain_pairs texts (purged es) ++ (plain texts key, plain texts value) ∷ [])
          ≡ plain_pairs texts (if there then set_value (value_eq key) es value else if none then es else purged es ++ (key, value) ∷ [])
      by true none = refl
      by false true = refl
      by false false = sym (map-append (plain_pair texts) (purged es) ((key, value) ∷ []))
