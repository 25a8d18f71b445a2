-- Which operations fit.
use Rattle.std.proofs.Common.{◌≡◌, ◌+◌, ◌-◌, ◌<◌, ◌≤◌, ℕ, Bool, true, false, cond, nat_le, nat_lt, nat_eq, List, length, drop, get_or, find, Option, None, Some, [], ◌∷◌, ◌||◌, is_some, refl, subst, ap, sym, ◌∙◌, arith}
use Rattle.std.specs.Map.{lookup}
use Rattle.std.specs.List.{list_any}
use Rattle.std.specs.Option.{option_map}
use Rattle.std.proofs.lemmas.Bool.Decides.{nat_tests}
use Rattle.std.proofs.lemmas.List.{at_drop_more}
use Rattle.linda_core.specs.declared.key.Key.{Key}
use Rattle.linda_core.specs.Queue.{Queued}
use Rattle.linda_core.specs.SequentialLinda.{key_eq, has_value}
use Rattle.linda_core.specs.Holding.{seen}
use Rattle.linda_core.proofs.ContentLemmas.{held_by-known, held_by-unknown}

-- so many more stay within a limit
pub within : (length more limit : ℕ) → more ≤ limit → nat_le length (limit - more) ≡ nat_le (length + more) limit
within length more limit h = grind (arith, nat_tests)

pub beyond : (length more limit : ℕ) → limit < more → nat_le more limit ≡ nat_le (length + more) limit
beyond length more limit h = grind (arith, nat_tests)

pub none_at_least : (count : ℕ) → nat_eq count 0 ≡ nat_le count 0
none_at_least count = grind (arith, nat_tests)

-- a key with this queue, and one that is not known
pub has_value-known : (es : List (Key × Queued)) (key : Key) (q : Queued) → lookup (key_eq key) es ≡ Some q → has_value (seen es) key ≡ nat_lt 0 (length q.items)
has_value-known es key q h = ap (λ known. nat_lt 0 (length known.queue)) (held_by-known es key q h)

pub has_value-unknown : (es : List (Key × Queued)) (key : Key) → lookup (key_eq key) es ≡ None → has_value (seen es) key ≡ false
has_value-unknown es key h = ap (λ known. nat_lt 0 (length known.queue)) (held_by-unknown es key h)

-- a search from a place on
pub find_here : {X : Type 0} (p : X → Bool) (xs : List X) (i : ℕ) (x : X) → i < length xs → x ≡ get_or xs i x → p x ≡ true → find p (drop i xs) ≡ Some x
find_here p xs i x within is passes =
    at_drop_more (find p) xs i x within
    ∙ ap (λ y. cond (p y) (Some y) (find p (drop (i + 1) xs))) (sym is)
    ∙ ap (λ b. cond b (Some x) (find p (drop (i + 1) xs))) passes

pub find_past : {X : Type 0} (p : X → Bool) (xs : List X) (i : ℕ) (x : X) → i < length xs → x ≡ get_or xs i x → p x ≡ false → find p (drop i xs) ≡ find p (drop (i + 1) xs)
find_past p xs i x within is fails =
    at_drop_more (find p) xs i x within
    ∙ ap (λ y. cond (p y) (Some y) (find p (drop (i + 1) xs))) (sym is)
    ∙ ap (λ b. cond b (Some x) (find p (drop (i + 1) xs))) fails

pub some_more : (n : ℕ) → 0 < n → nat_lt 0 n ≡ true
some_more n h = grind (arith, nat_tests)

pub none_more : (n : ℕ) → n ≤ 0 → nat_lt 0 n ≡ false
none_more n h = grind (arith, nat_tests)

is_some_step : {X : Type 0} (b : Bool) (x : X) (r : Option X) (c : Bool) → is_some r ≡ c → is_some (cond b (Some x) r) ≡ b || c
is_some_step true x r c h = refl
is_some_step false x r c h = h

pub is_some-find : {X : Type 0} (p : X → Bool) (xs : List X) → is_some (find p xs) ≡ list_any p xs
is_some-find p [] = refl
is_some-find p (x ∷ xs) = is_some_step (p x) x (find p xs) (list_any p xs) (is_some-find p xs)

pub is_some-option_map : {X Y : Type 0} (f : X → Y) (r : Option X) → is_some (option_map f r) ≡ is_some r
is_some-option_map f None = refl
is_some-option_map f (Some x) = refl

passes_step : {X : Type 0} (p : X → Bool) (b : Bool) (x y : X) (r : Option X) → p x ≡ b → (r ≡ Some y → p y ≡ true) → cond b (Some x) r ≡ Some y → p y ≡ true
passes_step p true x y r px rest h = let same : x ≡ y = cc in subst (λ z. p z ≡ true) same px
passes_step p false x y r px rest h = rest h

pub find-passes : {X : Type 0} (p : X → Bool) (xs : List X) (y : X) → find p xs ≡ Some y → p y ≡ true
find-passes p [] y h = absurd (cc)
find-passes p (x ∷ xs) y h = passes_step p (p x) x y (find p xs) refl (find-passes p xs y) h
