-- Strings of texts that are interned one after another.
use Rattle.std.proofs.Common.{◌≡◌, ◌∙◌, ℕ, suc, ◌+◌, ◌<◌, ◌≤◌, get_or, add-one, drop-cons, arith, Bool, true, false, cond, not, if◌then◌else◌, List, [], ◌∷◌, ◌++◌, map, refl, ap, sym, true≢false, ◌||◌, take, drop, length, Some, None, subst}
use Rattle.std.proofs.lemmas.Grind.{common_steps}
use Rattle.std.proofs.lemmas.List.{drop_all, take_more}
use Rattle.std.proofs.lemmas.List.Folds.{list_any-append}
use Rattle.std.proofs.lemmas.Slice.Eq.{bytes_eq-Decides}
use Rattle.std.specs.List.{list_any, position_or_len}
use Rattle.std.specs.Str.{bytes_eq}
use Rattle.lanes_arena.specs.Names.{named, number_of}
use Rattle.object_store.specs.declared.value.Value.{Value}
use Rattle.object_store.specs.declared.value.Value.TheVariants as V
use Rattle.lanes_lib.specs.declared.ask.Ask.{Ask}
use Rattle.lanes_lib.specs.declared.ask.Answer.{Answer}
use Rattle.lua_meaning.specs.Run.{Store, Run, Wrote, Point, Leads, lost}
use Rattle.object_store.specs.Heap.{Shown}
use Rattle.lua_machine.specs.declared.machine.Machine.{Machine}
use Rattle.lua_machine.specs.Does.{store_of}
use Rattle.lua_meaning.specs.Whole.{key_of, with_text, with_texts, interning}

-- all of these are held
abbrev pub Held : List (List ℕ) → List (List ℕ) → Type 0
Held texts [] = Unit {0}
Held texts (t ∷ ts) = (list_any (bytes_eq t) texts ≡ true) × Held texts ts

any_front : (p : List ℕ → Bool) (xs ys : List (List ℕ)) → list_any p xs ≡ true → list_any p (xs ++ ys) ≡ true
any_front p xs ys h = list_any-append p xs ys ∙ ap (λ b. b || list_any p ys) h

number_front : (p : List ℕ → Bool) (xs ys : List (List ℕ)) → list_any p xs ≡ true → position_or_len p (xs ++ ys) ≡ position_or_len p xs
number_front p [] ys h = absurd (true≢false (sym h))
number_front p (x ∷ xs) ys h = by (p x) (number_front p xs ys) h
  where
    by : (b : Bool) → (list_any p xs ≡ true → position_or_len p (xs ++ ys) ≡ position_or_len p xs) → (b || list_any p xs) ≡ true → cond (not b) (1 + position_or_len p (xs ++ ys)) 0 ≡ cond (not b) (1 + position_or_len p xs) 0
    by true rest h = refl
    by false rest h = ap (λ n. 1 + n) (rest h)

by_named : (P : List (List ℕ) → Type 0) (texts : List (List ℕ)) (u : List ℕ) → P texts → P (texts ++ u ∷ []) → P (named texts u)
by_named P texts u there new = by (list_any (bytes_eq u) texts)
  where
    by : (b : Bool) → P (if b then texts else texts ++ u ∷ [])
    by true = there
    by false = new

stays_held : (texts : List (List ℕ)) (t u : List ℕ) → list_any (bytes_eq t) texts ≡ true → list_any (bytes_eq t) (named texts u) ≡ true
stays_held texts t u h = by_named (λ l. list_any (bytes_eq t) l ≡ true) texts u h (any_front (bytes_eq t) texts (u ∷ []) h)

same_number : (texts : List (List ℕ)) (t u : List ℕ) → list_any (bytes_eq t) texts ≡ true → number_of (named texts u) t ≡ number_of texts t
same_number texts t u h = by_named (λ l. number_of l t ≡ number_of texts t) texts u refl (number_front (bytes_eq t) texts (u ∷ []) h)

holds_itself : (texts : List (List ℕ)) (t : List ℕ) → list_any (bytes_eq t) (named texts t) ≡ true
holds_itself texts t = by (list_any (bytes_eq t) texts) refl
  where
    it : bytes_eq t t ≡ true
    it = (bytes_eq-Decides t t).1 refl

    last : (b : Bool) → b ≡ true → (list_any (bytes_eq t) texts || (b || false)) ≡ true
    last b e = ap (λ x. list_any (bytes_eq t) texts || (x || false)) e ∙ or_true (list_any (bytes_eq t) texts)
      where
        or_true : (c : Bool) → (c || (true || false)) ≡ true
        or_true true = refl
        or_true false = refl

    by : (b : Bool) → list_any (bytes_eq t) texts ≡ b → list_any (bytes_eq t) (if b then texts else texts ++ t ∷ []) ≡ true
    by true h = h
    by false h = list_any-append (bytes_eq t) texts (t ∷ []) ∙ last (bytes_eq t t) it

-- one more text is held
pub holds_more : (texts ts : List (List ℕ)) (t : List ℕ) → Held texts ts → Held (named texts t) (ts ++ t ∷ [])
holds_more texts [] t h = (holds_itself texts t, tt)
holds_more texts (x ∷ ts) t h = (stays_held texts x t h.0, holds_more texts ts t h.1)

-- a text that is not held is named last
number_last : (p : List ℕ → Bool) (xs : List (List ℕ)) (t : List ℕ) → p t ≡ true → list_any p xs ≡ false → position_or_len p (xs ++ t ∷ []) ≡ position_or_len p xs
number_last p [] t it e = ap (λ b. cond (not b) 1 0) it
number_last p (x ∷ xs) t it e = by (p x) (number_last p xs t it) e
  where
    by : (b : Bool) → (list_any p xs ≡ false → position_or_len p (xs ++ t ∷ []) ≡ position_or_len p xs) → (b || list_any p xs) ≡ false → cond (not b) (1 + position_or_len p (xs ++ t ∷ [])) 0 ≡ cond (not b) (1 + position_or_len p xs) 0
    by true rest e = refl
    by false rest e = ap (λ n. 1 + n) (rest e)

own_number : (texts : List (List ℕ)) (t : List ℕ) → number_of (named texts t) t ≡ number_of texts t
own_number texts t = by (list_any (bytes_eq t) texts) refl
  where
    by : (b : Bool) → list_any (bytes_eq t) texts ≡ b → number_of (if b then texts else texts ++ t ∷ []) t ≡ number_of texts t
    by true e = refl
    by false e = number_last (bytes_eq t) texts t ((bytes_eq-Decides t t).1 refl) e

-- its string comes behind the others, which stay as they are
pub keys_more : (texts ts : List (List ℕ)) (t : List ℕ) → Held texts ts → map (key_of (named texts t)) (ts ++ t ∷ []) ≡ map (key_of texts) ts ++ key_of texts t ∷ []
keys_more texts [] t h = λ i. V.Str (record { number = own_number texts t i }) ∷ []
keys_more texts (x ∷ ts) t h = λ i. V.Str (record { number = same_number texts x t h.0 i }) ∷ keys_more texts ts t h.1 i

-- ---- one after another

module _ (ts : List (List ℕ)) (i : ℕ) (t : List ℕ) (h : i < length ts) (is : t ≡ get_or ts i t) where
  here_on : drop i ts ≡ t ∷ drop (i + 1) ts
  here_on =
      let e : drop i ts ≡ get_or ts i t ∷ drop (i + 1) ts = rw (add-one, drop-cons ts i t) in
      e ∙ ap (λ x. x ∷ drop (i + 1) ts) (sym is)

  pub one_more : take (i + 1) ts ≡ take i ts ++ t ∷ []
  one_more = take_more ts i t h ∙ ap (λ x. take i ts ++ x ∷ []) (sym is)

  pub interning_at : (s : Store) (next : Run) → interning (drop i ts) s next ≡ Wrote (with_text s t) (interning (drop (i + 1) ts) (with_text s t) next)
  interning_at s next = ap (λ l. interning l s next) here_on

  pub with_texts_at : (s : Store) → with_texts s (drop i ts) ≡ with_texts (with_text s t) (drop (i + 1) ts)
  with_texts_at s = ap (with_texts s) here_on

pub interning_end : (ts : List (List ℕ)) (i : ℕ) (s : Store) (next : Run) → length ts ≤ i → interning (drop i ts) s next ≡ next
interning_end ts i s next h = ap (λ l. interning l s next) (drop_all i ts h)

pub with_texts_end : (ts : List (List ℕ)) (i : ℕ) (s : Store) → length ts ≤ i → with_texts s (drop i ts) ≡ s
with_texts_end ts i s h = ap (with_texts s) (drop_all i ts h)

pub all_taken : (ts : List (List ℕ)) (i : ℕ) → length ts ≤ i → take i ts ≡ ts
all_taken ts i h = grind (arith, common_steps)

pub in_state : {H : Type 0} (m m1 : Machine H) (s : Shown) → m1 ≡ record m { state = m1.state } → record m1 { state = s } ≡ record m { state = s }
in_state {H} m m1 s e = let put : Machine H → Machine H = λ x. record x { state = s } in ap put e

-- the memory where a text was interned
pub stored : (s s1 : Shown) (t u : List ℕ) → s1.heap ≡ s.heap → s1.texts ≡ named s.texts u → u ≡ t → store_of s1 ≡ with_text (store_of s) t
stored s s1 t u h e same = λ j. record { heap = h j; texts = (e ∙ ap (named s.texts) same) j }

-- for want of memory nothing is said of the run
pub lost_at : {H : Type 0} {asked : H → Ask → Answer → H → Type 0} (h h1 : Point H) (r : Run) → h1 ≡ h → Leads asked h r h1 None
lost_at {H} {asked} h h1 r e = subst (λ x. Leads asked h r x None) (sym e) lost
