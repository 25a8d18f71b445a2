-- Keys that are put into an ordered set one after the other are each there once, at their first
-- places.
use Rattle.std.proofs.Common.{◌≡◌, Bool, true, false, cond, not, ◌&&◌, ◌||◌, List, [], ◌∷◌, ◌++◌, filter, refl, ap, sym, subst, ◌∙◌, append_assoc, true≢false}
use Rattle.std.specs.List.{list_any}
use Rattle.indexmap.specs.IndexSet.{insert_all}
use Rattle.linda_core.specs.declared.key.Key.{Key}
use Rattle.linda_core.specs.SequentialLinda.{key_eq, once}
use Rattle.linda_core.proofs.KeyLemmas.{key_eq-same, key_eq-refl}

pub key_eq-sym : (a b : Key) → key_eq a b ≡ key_eq b a
key_eq-sym a b = by (key_eq a b) (key_eq b a) refl refl
  where
    by : (c d : Bool) → key_eq a b ≡ c → key_eq b a ≡ d → c ≡ d
    by true true e f = refl
    by false false e f = refl
    by true false e f = absurd (true≢false (sym (subst (λ x. key_eq x a ≡ true) (key_eq-same a b e) (key_eq-refl a)) ∙ f))
    by false true e f = absurd (true≢false (sym (subst (λ x. key_eq x b ≡ true) (key_eq-same b a f) (key_eq-refl b)) ∙ e))

abbrev differs : Key → Key → Bool
differs key other = not (key_eq key other)

-- it is none of these
abbrev is_new : List Key → Key → Bool
is_new done key = not (list_any (key_eq key) done)

-- a list with its end
with_none : (xs : List Key) → xs ≡ xs ++ []
with_none [] = refl
with_none (x ∷ xs) = ap (λ l. x ∷ l) (with_none xs)

filters : (p q : Key → Bool) (xs : List Key) → filter p (filter q xs) ≡ filter (λ x. q x && p x) xs
filters p q [] = refl
filters p q (x ∷ xs) = by (q x) (filters p q xs)
  where
    by : (c : Bool) → filter p (filter q xs) ≡ filter (λ x. q x && p x) xs → filter p (cond c (x ∷ filter q xs) (filter q xs)) ≡ cond (c && p x) (x ∷ filter (λ x. q x && p x) xs) (filter (λ x. q x && p x) xs)
    by true h = ap (λ l. cond (p x) (x ∷ l) l) h
    by false h = h

same_filter : (p q : Key → Bool) → ((x : Key) → p x ≡ q x) → (xs : List Key) → filter p xs ≡ filter q xs
same_filter p q same [] = refl
same_filter p q same (x ∷ xs) = λ i. cond (same x i) (x ∷ same_filter p q same xs i) (same_filter p q same xs i)

any_append : (p : Key → Bool) (xs : List Key) (k : Key) → list_any p (xs ++ k ∷ []) ≡ list_any p xs || p k
any_append p [] k = by (p k)
  where
    by : (b : Bool) → b || false ≡ b
    by true = refl
    by false = refl
any_append p (x ∷ xs) k = by (p x) (any_append p xs k)
  where
    by : (b : Bool) → list_any p (xs ++ k ∷ []) ≡ list_any p xs || p k → b || list_any p (xs ++ k ∷ []) ≡ (b || list_any p xs) || p k
    by true h = refl
    by false h = h

-- what is new once one more key is there
new_after : (done : List Key) (k x : Key) → is_new (done ++ k ∷ []) x ≡ differs k x && is_new done x
new_after done k x = ap not (any_append (key_eq x) done k ∙ ap (λ b. list_any (key_eq x) done || b) (key_eq-sym x k)) ∙ by (list_any (key_eq x) done) (key_eq k x)
  where
    by : (a b : Bool) → not (a || b) ≡ not b && not a
    by true true = refl
    by true false = refl
    by false true = refl
    by false false = refl

-- a key that was there already is not new
new_beside : (done : List Key) (k x : Key) → list_any (key_eq k) done ≡ true → differs k x && is_new done x ≡ is_new done x
new_beside done k x there = by (key_eq k x) refl
  where
    by : (b : Bool) → key_eq k x ≡ b → not b && is_new done x ≡ is_new done x
    by true e = sym (ap not (subst (λ y. list_any (key_eq y) done ≡ true) (key_eq-same k x e) there))
    by false e = refl

pub all_once : (done keys : List Key) → insert_all key_eq done keys ≡ done ++ filter (is_new done) (once keys)
all_once done [] = with_none done
all_once done (k ∷ ks) = by (list_any (key_eq k) done) refl (all_once done ks) (all_once (done ++ k ∷ []) ks)
  where
    rest : List Key
    rest = filter (is_new done) (filter (differs k) (once ks))

    by : (b : Bool) → list_any (key_eq k) done ≡ b → insert_all key_eq done ks ≡ done ++ filter (is_new done) (once ks)
        → insert_all key_eq (done ++ k ∷ []) ks ≡ (done ++ k ∷ []) ++ filter (is_new (done ++ k ∷ [])) (once ks) → insert_all key_eq (cond b done (done ++ k ∷ [])) ks ≡ done ++ cond (not b) (k ∷ rest) rest
    by true there h g =
        h
        ∙ ap (λ l. done ++ l) (sym (filters (is_new done) (differs k) (once ks) ∙ same_filter _ _ (λ x. new_beside done k x there) (once ks)))
    by false there h g =
        g ∙ append_assoc done (k ∷ []) _
        ∙ ap (λ l. done ++ k ∷ l) (same_filter _ _ (new_after done k) (once ks) ∙ sym (filters (is_new done) (differs k) (once ks)))

all_new : (keys : List Key) → filter (is_new []) keys ≡ keys
all_new [] = refl
all_new (k ∷ ks) = ap (λ l. k ∷ l) (all_new ks)

pub each_once : (keys : List Key) → insert_all key_eq [] keys ≡ once keys
each_once keys = all_once [] keys ∙ all_new (once keys)
