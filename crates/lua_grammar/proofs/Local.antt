-- Steps of local readers make local readers.
use Rattle.std.proofs.Common.{◌≡◌, inl, inr, refl, sym, ◌∙◌, ap, subst, nat_eq, ◌<◌, ◌≤◌, Bool, true, false, if◌then◌else◌, List, [], ◌∷◌, ◌++◌, length, length-append, append_assoc, Option, Some, None, Ok, Err, arith}
use Rattle.std.specs.Cmp.Lexicographic.{pointwise}
use Rattle.lua_tokens.specs.declared.place.Place.{Place}
use Rattle.lua_tokens.specs.declared.token.Token.{Token}
use Rattle.lua_tokens.specs.declared.token.Lexeme.{Lexeme}
use Rattle.lua_tokens.specs.declared.token.Lexeme.TheVariants as l
use Rattle.lua_grammar.specs.Tokens.{name, const_name}
use Rattle.lua_grammar.specs.Written.{Bytes}
use Rattle.lua_grammar.specs.Next.{is, a_name}
use Rattle.lua_grammar.specs.Input.{Outcome, Parser, Why, bad, deep, attribute, Stop, and_then, ◌>>=◌, pure, refuse, at, on, expect, before, by_attribute, attribute_name, Turn, again, done, many}
use Rattle.lua_grammar.proofs.Found.{name_found}
use Rattle.lua_grammar.proofs.Fronts.{Misses}
use Rattle.lua_grammar.proofs.Loops.{Shrinks, TurnMeets, many_meets, many_done, many_fails, many_again}
use Rattle.lua_grammar.proofs.Properties.{head, Alike, AlikeFor, NoEnd, Past, Marked, LocalOk, LocalErr, LocalAt, Local}

-- ---- tokens alike

pub alike_append : (w u v : List Token) → Alike (head u) (head v) → Alike (head (w ++ u)) (head (w ++ v))
alike_append [] u v h = h
alike_append (x ∷ w) u v h = inl refl

pub alike_for : (why : Why) (a b : Option Token) → AlikeFor why a b → Alike a b
alike_for bad a b h = h
alike_for deep a b h = h
alike_for attribute a b h = inl h

pub alike_names : (n m : Bytes) (p q : Place) → Alike (Some (name n p)) (Some (name m q))
alike_names n m p q = inr ((n, refl), (m, refl))

pub no_end_append : (u v : List Token) → NoEnd u → NoEnd v → NoEnd (u ++ v)
no_end_append [] v h g = g
no_end_append (x ∷ u) v h g = (h.0, no_end_append u v h.1 g)

-- ---- what is left

unfoldable pub left : {A : Type 0} → Outcome A → List Token
left (Ok x) = x.1
left (Err stop) = stop.1

pub left_at_most : {A : Type 0} (p : Parser A) (ts : List Token) (r : Outcome A) → LocalAt p ts r → length (left r) ≤ length ts
unfolding left
left_at_most p ts (Ok x) l = omega (arith, ap length l.read ∙ length-append l.pre x.1)
left_at_most p ts (Err stop) l = omega (arith, ap length l.read ∙ length-append l.pre stop.1)

pub past_left : {A : Type 0} (r : Outcome A) (ts : List Token) → length (left r) < length ts → Past r ts
unfolding left
past_left (Ok x) ts h = h
past_left (Err stop) ts h = h

pub left_past : {A : Type 0} (r : Outcome A) (ts : List Token) → Past r ts → length (left r) < length ts
unfolding left
left_past (Ok x) ts h = h
left_past (Err stop) ts h = h

-- ---- the tokens that were taken first, and a local reader that goes on

module _ {B : Type 0} (whole : Parser B) (tail : Parser B) (ts pre mid : List Token) (read : ts ≡ pre ++ mid) (inside : NoEnd pre)
    (link : (v : List Token) → Alike (head v) (head mid) → whole (pre ++ v) ≡ tail v) where
  joined : (w v : List Token) → ts ≡ pre ++ mid → mid ≡ w ++ v → ts ≡ (pre ++ w) ++ v
  joined w v e f = e ∙ ap (λ z. pre ++ z) f ∙ sym (append_assoc pre w v)

  linked : (w u v : List Token) → mid ≡ w ++ v → Alike (head u) (head v) → whole ((pre ++ w) ++ u) ≡ tail (w ++ u)
  linked w u v e h = ap whole (append_assoc pre w u) ∙ link (w ++ u) (subst (λ z. Alike (head (w ++ u)) (head z)) (sym e) (alike_append w u v h))

  pub sequel : (r : Outcome B) → LocalAt tail mid r → LocalAt whole ts r
  sequel (Ok x) l = record {
    pre = pre ++ l.pre;
    read = joined l.pre x.1 read l.read;
    inside = no_end_append pre l.pre inside l.inside;
    again = λ u h. linked l.pre u x.1 l.read h ∙ l.again u h;
  }
  sequel (Err stop) l = record {
    pre = pre ++ l.pre;
    read = joined l.pre stop.1 read l.read;
    inside = no_end_append pre l.pre inside l.inside;
    again = λ u h. linked l.pre u stop.1 l.read (alike_for stop.0 (head u) (head stop.1) h) ∙ l.again u h;
    marked = λ e.
        let m : Marked tail l.pre stop = l.marked e in
        record {
          text = m.text;
          place = m.place;
          after = m.after;
          is = m.is;
          past = subst (λ z. Past z stop.1)
              (sym (linked l.pre (name const_name m.place ∷ m.after) stop.1 l.read (subst (λ z. Alike (Some (name const_name m.place)) (head z)) (sym m.is) (alike_names const_name m.text m.place m.place))))
              m.past;
        };
  }

-- ---- steps

pub pure_local : {A : Type 0} (a : A) → Local (pure a)
pure_local a ts = record { pre = []; read = refl; inside = tt; again = λ u h. refl }

pub refuse_local : (A : Type 0) → Local (refuse {A = A})
refuse_local A ts = record { pre = []; read = refl; inside = tt; again = λ u h. refl; marked = λ e. cc }

module _ {A B : Type 0} (p : Parser A) (f : A → Parser B) (each : (a : A) → Local (f a)) where
  after : (r : Outcome A) (ts : List Token) → length (left r) < length ts → length (left (and_then r f)) < length ts
  unfolding left
  after (Ok x) ts h = omega (arith, h, left_at_most (f x.0) x.1 (f x.0 x.1) (each x.0 x.1))
  after (Err stop) ts h = h

  at_result : (ts : List Token) (r : Outcome A) → LocalAt p ts r → LocalAt (p >>= f) ts (and_then r f)
  at_result ts (Ok x) l = sequel (p >>= f) (f x.0) ts l.pre x.1 l.read l.inside (λ v h. ap (λ r. and_then r f) (l.again v h)) (f x.0 x.1) (each x.0 x.1)
  at_result ts (Err stop) l = record {
    pre = l.pre;
    read = l.read;
    inside = l.inside;
    again = λ u h. ap (λ r. and_then r f) (l.again u h);
    marked = λ e.
        let m : Marked p l.pre stop = l.marked e in
        record {
          text = m.text;
          place = m.place;
          after = m.after;
          is = m.is;
          past = past_left (and_then (p (l.pre ++ name const_name m.place ∷ m.after)) f) stop.1
              (after (p (l.pre ++ name const_name m.place ∷ m.after)) stop.1 (left_past (p (l.pre ++ name const_name m.place ∷ m.after)) stop.1 m.past));
        };
  }

  pub bind_local : Local p → Local (p >>= f)
  bind_local h ts = at_result ts (p ts) (h ts)

-- ---- the next token

module _ {A B : Type 0} (look : Lexeme → Option B) (room : Bool) (p : B → Place → Parser A) (q : Parser A) where
  pub on_miss : (ts : List Token) → Misses look ts → on look room p q ts ≡ q ts
  unfolding on
  on_miss [] h = refl
  on_miss (x ∷ ts) h = ap (λ o. at room p q o x ts) h

  pub on_hit : (x : Token) (ts : List Token) (b : B) → room ≡ true → look x.what ≡ Some b → on look room p q (x ∷ ts) ≡ p b x.place ts
  unfolding on
  on_hit x ts b r h = ap (λ o. at room p q o x ts) h ∙ ap (λ c. if c then p b x.place ts else Err (deep, x ∷ ts)) r

  pub on_deep : (x : Token) (ts : List Token) (b : B) → room ≡ false → look x.what ≡ Some b → on look room p q (x ∷ ts) ≡ Err (deep, x ∷ ts)
  unfolding on
  on_deep x ts b r h = ap (λ o. at room p q o x ts) h ∙ ap (λ c. if c then p b x.place ts else Err (deep, x ∷ ts)) r

  -- names are not told apart
  module _ (names : (n m : Bytes) → look (l.Name n) ≡ None → look (l.Name m) ≡ None) (no_end : look l.End ≡ None) (hp : (b : B) (pl : Place) → Local (p b pl)) (hq : Local q) where
    misses_alike : (u v : List Token) → Alike (head u) (head v) → Misses look v → Misses look u
    misses_alike [] v h m = tt
    misses_alike (x ∷ u) [] (inl e) m = cc
    misses_alike (x ∷ u) [] (inr e) m = absurd e.1
    misses_alike (x ∷ u) (y ∷ v) (inl e) m = (let same : x ≡ y = cc in ap (λ (z : Token). look z.what) same ∙ m)
    misses_alike (x ∷ u) (y ∷ v) (inr e) m = ap look e.0.1 ∙ names e.1.0 e.0.0 (ap look (sym e.1.1) ∙ m)

    too_deep : (y : Token) (u : List Token) (x : Token) (b : B) → room ≡ false → look x.what ≡ Some b → Alike (Some y) (Some x) → on look room p q (y ∷ u) ≡ Err (deep, y ∷ u)
    too_deep y u x b r e h = by_look (look y.what) refl
      where
        by_look : (o : Option B) → look y.what ≡ o → on look room p q (y ∷ u) ≡ Err (deep, y ∷ u)
        by_look (Some c) f = on_deep y u c r f
        by_look None f = (let no : None ≡ Some b = sym (misses_alike (x ∷ []) (y ∷ []) (swap h) f) ∙ e in cc)
          where
            swap : Alike (Some y) (Some x) → Alike (Some x) (Some y)
            swap (inl k) = inl (sym k)
            swap (inr k) = inr (k.1, k.0)

    refused : (x : Token) (ts : List Token) (b : B) → room ≡ false → look x.what ≡ Some b → LocalErr (on look room p q) (x ∷ ts) (deep, x ∷ ts)
    refused x ts b r e = record {
      pre = [];
      read = refl;
      inside = tt;
      again = at_next;
      marked = λ k. cc;
    }
      where
        at_next : (u : List Token) → Alike (head u) (Some x) → on look room p q u ≡ Err (deep, u)
        at_next [] (inl k) = cc
        at_next [] (inr k) = absurd k.0
        at_next (y ∷ u) h = too_deep y u x b r e h

    pub on_local_by : Local (on look room p q)
    on_local_by [] = subst (LocalAt (on look room p q) []) (sym (on_miss [] tt))
        (sequel (on look room p q) q [] [] [] refl tt (λ v h. on_miss v (misses_alike v [] h tt)) (q []) (hq []))
    on_local_by (x ∷ ts) = at_token (look x.what) refl room refl
      where
        at_token : (o : Option B) → look x.what ≡ o → (c : Bool) → room ≡ c → LocalAt (on look room p q) (x ∷ ts) (on look room p q (x ∷ ts))
        at_token None e c r = subst (LocalAt (on look room p q) (x ∷ ts)) (sym (on_miss (x ∷ ts) e))
            (sequel (on look room p q) q (x ∷ ts) [] (x ∷ ts) refl tt (λ v h. on_miss v (misses_alike v (x ∷ ts) h e)) (q (x ∷ ts)) (hq (x ∷ ts)))
        at_token (Some b) e true r = subst (LocalAt (on look room p q) (x ∷ ts)) (sym (on_hit x ts b r e))
            (sequel (on look room p q) (p b x.place) (x ∷ ts) (x ∷ []) ts refl ((λ k. (let no : None ≡ Some b = sym no_end ∙ ap look (sym k) ∙ e in cc)), tt)
            (λ v h. on_hit x v b r e) (p b x.place ts) (hp b x.place ts))
        at_token (Some b) e false r = subst (LocalAt (on look room p q) (x ∷ ts)) (sym (on_deep x ts b r e)) (refused x ts b r e)

-- for what is no name
pub on_local : {A B : Type 0} (look : Lexeme → Option B) (room : Bool) (p : B → Place → Parser A) (q : Parser A) → ((n : Bytes) → look (l.Name n) ≡ None) → look l.End ≡ None
    → ((b : B) (pl : Place) → Local (p b pl)) → Local q → Local (on look room p q)
on_local look room p q no_name no_end hp hq = on_local_by look room p q (λ n m h. no_name m) no_end hp hq

pub name_local : {A : Type 0} (room : Bool) (p : Bytes → Place → Parser A) (q : Parser A) → ((b : Bytes) (pl : Place) → Local (p b pl)) → Local q → Local (on a_name room p q)
name_local room p q hp hq = on_local_by a_name room p q (λ n m h. cc) refl hp hq

pub expect_local : (x : Lexeme) → ((n : Bytes) → is x (l.Name n) ≡ None) → is x l.End ≡ None → Local (expect x)
unfolding expect
expect_local x no_name no_end = on_local (is x) true (λ _ p. pure p) refuse no_name no_end (λ _ p. pure_local p) (refuse_local Place)

module _ {A : Type 0} (test : Lexeme → Bool) (p q : Parser A) (names : (n m : Bytes) → test (l.Name n) ≡ test (l.Name m)) where
  abbrev Tests : Bool → List Token → Type 0
  Tests true [] = ⊥
  Tests false [] = Unit {0}
  Tests c (x ∷ ts) = test x.what ≡ c

  before_is : (c : Bool) (ts : List Token) → Tests c ts → before test p q ts ≡ (if c then p ts else q ts)
  unfolding before
  before_is true [] h = absurd h
  before_is false [] h = refl
  before_is true (x ∷ ts) h = ap (λ c. if c then p (x ∷ ts) else q (x ∷ ts)) h
  before_is false (x ∷ ts) h = ap (λ c. if c then p (x ∷ ts) else q (x ∷ ts)) h

  tests_alike : (c : Bool) (u v : List Token) → Alike (head u) (head v) → Tests c v → Tests c u
  tests_alike c [] [] h t = t
  tests_alike c [] (y ∷ v) (inl e) t = cc
  tests_alike c [] (y ∷ v) (inr e) t = absurd e.0
  tests_alike c (x ∷ u) [] (inl e) t = cc
  tests_alike c (x ∷ u) [] (inr e) t = absurd e.1
  tests_alike true (x ∷ u) (y ∷ v) (inl e) t = (let same : x ≡ y = cc in ap (λ (z : Token). test z.what) same ∙ t)
  tests_alike false (x ∷ u) (y ∷ v) (inl e) t = (let same : x ≡ y = cc in ap (λ (z : Token). test z.what) same ∙ t)
  tests_alike true (x ∷ u) (y ∷ v) (inr e) t = ap test e.0.1 ∙ names e.0.0 e.1.0 ∙ ap test (sym e.1.1) ∙ t
  tests_alike false (x ∷ u) (y ∷ v) (inr e) t = ap test e.0.1 ∙ names e.0.0 e.1.0 ∙ ap test (sym e.1.1) ∙ t

  by_test : (ts : List Token) (c : Bool) → Tests c ts → Local p → Local q → LocalAt (before test p q) ts (before test p q ts)
  by_test ts true t hp hq = subst (LocalAt (before test p q) ts) (sym (before_is true ts t))
      (sequel (before test p q) p ts [] ts refl tt (λ v h. before_is true v (tests_alike true v ts h t)) (p ts) (hp ts))
  by_test ts false t hp hq = subst (LocalAt (before test p q) ts) (sym (before_is false ts t))
      (sequel (before test p q) q ts [] ts refl tt (λ v h. before_is false v (tests_alike false v ts h t)) (q ts) (hq ts))

  pub before_local : Local p → Local q → Local (before test p q)
  before_local hp hq [] = by_test [] false tt hp hq
  before_local hp hq (x ∷ ts) = at_token (test x.what) refl
    where
      at_token : (c : Bool) → test x.what ≡ c → LocalAt (before test p q) (x ∷ ts) (before test p q (x ∷ ts))
      at_token true e = by_test (x ∷ ts) true e hp hq
      at_token false e = by_test (x ∷ ts) false e hp hq

-- ---- attributes

pub attribute_refused : (x : Token) (ts : List Token) (n : Bytes) → a_name x.what ≡ Some n → pointwise nat_eq n const_name ≡ false → attribute_name (x ∷ ts) ≡ Err (attribute, x ∷ ts)
unfolding attribute_name
attribute_refused x ts n e c = ap (λ o. by_attribute o x ts) e ∙ ap (λ b. if b then Ok (x.place, ts) else Err (attribute, x ∷ ts)) c

pub attribute_taken : (x : Token) (ts : List Token) (n : Bytes) → a_name x.what ≡ Some n → pointwise nat_eq n const_name ≡ true → attribute_name (x ∷ ts) ≡ Ok (x.place, ts)
unfolding attribute_name
attribute_taken x ts n e c = ap (λ o. by_attribute o x ts) e ∙ ap (λ b. if b then Ok (x.place, ts) else Err (attribute, x ∷ ts)) c

pub attribute_other : (x : Token) (ts : List Token) → a_name x.what ≡ None → attribute_name (x ∷ ts) ≡ Err (bad, x ∷ ts)
unfolding attribute_name
attribute_other x ts e = ap (λ o. by_attribute o x ts) e

pub attribute_local : Local attribute_name
unfolding attribute_name
attribute_local [] = record { pre = []; read = refl; inside = tt; again = at_none; marked = λ k. cc }
  where
    at_none : (u : List Token) → Alike (head u) None → attribute_name u ≡ Err (bad, u)
    at_none [] h = refl
    at_none (x ∷ u) (inl e) = cc
    at_none (x ∷ u) (inr e) = absurd e.1
attribute_local (x ∷ ts) = by_name (a_name x.what) refl
  where
    other : a_name x.what ≡ None → (u : List Token) → Alike (head u) (Some x) → attribute_name u ≡ Err (bad, u)
    other e [] (inl k) = cc
    other e [] (inr k) = absurd k.0
    other e (y ∷ u) (inl k) = (let same : y ≡ x = cc in attribute_other y u (ap (λ (z : Token). a_name z.what) same ∙ e))
    other e (y ∷ u) (inr k) = (let no : Some k.1.0 ≡ None = ap a_name (sym k.1.1) ∙ e in cc)

    by_text : (n : Bytes) → a_name x.what ≡ Some n → (c : Bool) → pointwise nat_eq n const_name ≡ c → LocalAt attribute_name (x ∷ ts) (attribute_name (x ∷ ts))
    by_text n e true c = subst (LocalAt attribute_name (x ∷ ts)) (sym (attribute_taken x ts n e c)) (record {
      pre = x ∷ [];
      read = refl;
      inside = ((λ k. (let no : None ≡ Some n = ap a_name (sym k) ∙ e in cc)), tt);
      again = λ u h. attribute_taken x u n e c;
    })
    by_text n e false c = subst (LocalAt attribute_name (x ∷ ts)) (sym (attribute_refused x ts n e c)) (record {
      pre = [];
      read = refl;
      inside = tt;
      again = same;
      marked = λ _. record { text = n; place = x.place; after = ts; is = ap (λ z. record { what = z; place = x.place } ∷ ts) (name_found x.what n e); past = omega arith };
    })
      where
        same : (u : List Token) → head u ≡ Some x → attribute_name u ≡ Err (attribute, u)
        same [] h = cc
        same (y ∷ u) h = (let k : y ≡ x = cc in attribute_refused y u n (ap (λ (z : Token). a_name z.what) k ∙ e) c)

    by_name : (o : Option Bytes) → a_name x.what ≡ o → LocalAt attribute_name (x ∷ ts) (attribute_name (x ∷ ts))
    by_name None e = subst (LocalAt attribute_name (x ∷ ts)) (sym (attribute_other x ts e)) (record { pre = []; read = refl; inside = tt; again = other e; marked = λ k. cc })
    by_name (Some n) e = by_text n e (pointwise nat_eq n const_name) refl

-- ---- loops

module _ {S A : Type 0} (step : S → Parser (Turn S A)) (shrinks : Shrinks step) (each : (s : S) → Local (step s)) where
  one_left : (s : S) (ts : List Token) → Unit {0} → TurnMeets step shrinks (λ s ts r. length (left r) ≤ length ts) (λ s ts. Unit {0}) s ts (step s ts)
  unfolding left
  one_left s ts _ = by_result (step s ts) (left_at_most (step s) ts (step s ts) (each s ts))
    where
      by_result : (r : Outcome (Turn S A)) → length (left r) ≤ length ts → TurnMeets step shrinks (λ s ts r. length (left r) ≤ length ts) (λ s ts. Unit {0}) s ts r
      by_result (Ok (again s', rest)) m = (tt, λ r q. omega (arith, q, m))
      by_result (Ok (done a, rest)) m = m
      by_result (Err stop) m = m

  many_left : (s : S) (ts : List Token) → length (left (many step s ts)) ≤ length ts
  many_left s ts = many_meets step shrinks (λ s ts r. length (left r) ≤ length ts) (λ s ts. Unit {0}) one_left s ts tt

  pub many_past : (s : S) (ts us : List Token) → Past (step s ts) us → Past (many step s ts) us
  unfolding left
  many_past s ts us h = by_result (step s ts) refl h
    where
      by_result : (r : Outcome (Turn S A)) → step s ts ≡ r → Past r us → Past (many step s ts) us
      by_result (Ok (again s', rest)) e m = subst (λ z. Past z us) (sym (many_again step shrinks s s' ts rest e)) (past_left (many step s' rest) us (omega (arith, many_left s' rest, m)))
      by_result (Ok (done a, rest)) e m = subst (λ z. Past z us) (sym (many_done step shrinks s ts rest a e)) m
      by_result (Err stop) e m = subst (λ z. Past z us) (sym (many_fails step shrinks s ts stop e)) m

  ended : (s : S) (ts : List Token) (a : A) (rest : List Token) → LocalOk (step s) ts (done a, rest) → LocalOk (many step s) ts (a, rest)
  ended s ts a rest l = record { pre = l.pre; read = l.read; inside = l.inside; again = λ u h. many_done step shrinks s (l.pre ++ u) u a (l.again u h) }

  failed : (s : S) (ts : List Token) (stop : Stop) → LocalErr (step s) ts stop → LocalErr (many step s) ts stop
  failed s ts stop l = record {
    pre = l.pre;
    read = l.read;
    inside = l.inside;
    again = λ u h. many_fails step shrinks s (l.pre ++ u) (stop.0, u) (l.again u h);
    marked = λ e.
        let m : Marked (step s) l.pre stop = l.marked e in
        record { text = m.text; place = m.place; after = m.after; is = m.is; past = many_past s (l.pre ++ name const_name m.place ∷ m.after) stop.1 m.past };
  }

  one_local : (s : S) (ts : List Token) → Unit {0} → TurnMeets step shrinks (λ s ts r. LocalAt (many step s) ts r) (λ s ts. Unit {0}) s ts (step s ts)
  one_local s ts _ = by_result (step s ts) (each s ts)
    where
      by_result : (r : Outcome (Turn S A)) → LocalAt (step s) ts r → TurnMeets step shrinks (λ s ts r. LocalAt (many step s) ts r) (λ s ts. Unit {0}) s ts r
      by_result (Ok (again s', rest)) l =
          (tt, λ r q. sequel (many step s) (many step s') ts l.pre rest l.read l.inside (λ v h. many_again step shrinks s s' (l.pre ++ v) v (l.again v h)) r q)
      by_result (Ok (done a, rest)) l = ended s ts a rest l
      by_result (Err stop) l = failed s ts stop l

  pub many_local : (s : S) → Local (many step s)
  many_local s ts = many_meets step shrinks (λ s ts r. LocalAt (many step s) ts r) (λ s ts. Unit {0}) one_local s ts tt
