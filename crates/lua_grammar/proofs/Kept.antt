-- Steps of kept readers make kept readers.
use Rattle.std.proofs.Common.{◌≡◌, refl, sym, ◌∙◌, ap, subst, ℕ, max, nat_eq, ◌<◌, ◌≤◌, Bool, true, false, if◌then◌else◌, List, [], ◌∷◌, length, Option, Some, None, Ok, Err, arith}
use Rattle.std.specs.Cmp.Lexicographic.{pointwise}
use Rattle.lua_tokens.specs.declared.place.Place.{Place}
use Rattle.lua_tokens.specs.declared.token.Token.{Token}
use Rattle.lua_tokens.specs.declared.token.Lexeme.{Lexeme}
use Rattle.lua_tokens.specs.declared.token.Lexeme.TheVariants as l
use Rattle.lua_grammar.specs.Tokens.{const_name}
use Rattle.lua_grammar.specs.Written.{Bytes}
use Rattle.lua_grammar.specs.Next.{is, a_name}
use Rattle.lua_grammar.specs.Input.{Outcome, Parser, bad, deep, attribute, and_then, ◌>>=◌, pure, refuse, at, on, expect, before, attribute_name, Turn, again, done, many}
use Rattle.lua_grammar.proofs.Fronts.{Meets, Misses}
use Rattle.lua_grammar.proofs.Loops.{Shrinks, TurnMeets, many_meets, many_done, many_fails, many_again}
use Rattle.lua_grammar.proofs.Properties.{Past, Local, Kept, KeptAt}
use Rattle.lua_grammar.proofs.Local.{left, left_at_most, past_left, left_past, pure_local, refuse_local, bind_local, on_local, name_local, before_local, attribute_local, many_local, many_past, attribute_refused, attribute_taken, attribute_other, on_miss, on_hit, on_deep}

-- Readers for each depth, kept at d where something holds.
pub record Fam {A : Type 0} (C : Type 0) (d : ℕ) (p : ℕ → Parser A) : Type 0 where
  pub kept : C → KeptAt p d
  pub local : (n : ℕ) → Local (p n)

pub when : {A : Type 0} {C D : Type 0} {d : ℕ} {p : ℕ → Parser A} → (C → D) → Fam D d p → Fam C d p
when f h = record { kept = λ c. h.kept (f c); local = h.local }

-- the same answer, by an equation at each depth from d on
pub same_kept : {A : Type 0} (d : ℕ) (p : ℕ → Parser A) (q : ℕ → Parser A) (ts us : List Token) → ((n : ℕ) → d ≤ n → p n ts ≡ q n us) → (r : Outcome A) → Kept q d us r → Kept p d ts r
same_kept d p q ts us e (Ok x) k = λ n h. e n h ∙ k n h
same_kept d p q ts us e (Err (bad, rest)) k = λ n h. e n h ∙ k n h
same_kept d p q ts us e (Err (attribute, rest)) k = λ n h. e n h ∙ k n h
same_kept d p q ts us e (Err (deep, rest)) k = (max d k.0, λ n h. subst (λ z. Past z rest) (sym (e n (omega (arith, h)))) (k.1 n (omega (arith, h))))

-- ---- steps

pub steady : {A : Type 0} (C : Type 0) (d : ℕ) (p : Parser A) → ((ts : List Token) → Kept (λ _. p) d ts (p ts)) → Local p → Fam C d (λ _. p)
steady C d p h g = record { kept = λ _. h; local = λ _. g }

pub pure_fam : {A : Type 0} (C : Type 0) (d : ℕ) (a : A) → Fam C d (λ _. pure a)
pure_fam C d a = record { kept = λ _ ts n h. refl; local = λ _. pure_local a }

pub refuse_fam : (A C : Type 0) (d : ℕ) → Fam C d (λ _. refuse {A = A})
refuse_fam A C d = record { kept = λ _ ts n h. refl; local = λ _. refuse_local A }

module _ {A B : Type 0} (C : Type 0) (d : ℕ) (p : ℕ → Parser A) (f : ℕ → A → Parser B) (hp : Fam C d p) (each : (a : A) → Fam C d (λ n. f n a)) where
  after : (n : ℕ) (r : Outcome A) (ts : List Token) → length (left r) < length ts → length (left (and_then r (f n))) < length ts
  unfolding left
  after n (Ok x) ts h = omega (arith, h, left_at_most (f n x.0) x.1 (f n x.0 x.1) ((each x.0).local n x.1))
  after n (Err stop) ts h = h

  at_result : C → (ts : List Token) (r : Outcome A) → Kept p d ts r → Kept (λ n. p n >>= f n) d ts (and_then r (f d))
  at_result c ts (Ok x) k = same_kept d (λ n. p n >>= f n) (λ n. f n x.0) ts x.1 (λ n h. ap (λ r. and_then r (f n)) (k n h)) (f d x.0 x.1) ((each x.0).kept c x.1)
  at_result c ts (Err (bad, rest)) k = λ n h. ap (λ r. and_then r (f n)) (k n h)
  at_result c ts (Err (attribute, rest)) k = λ n h. ap (λ r. and_then r (f n)) (k n h)
  at_result c ts (Err (deep, rest)) k = (k.0, λ n h. past_left (and_then (p n ts) (f n)) rest (after n (p n ts) rest (left_past (p n ts) rest (k.1 n h))))

  pub bind_fam : Fam C d (λ n. p n >>= f n)
  bind_fam = record { kept = λ c ts. at_result c ts (p d ts) (hp.kept c ts); local = λ n. bind_local (p n) (f n) (λ a. (each a).local n) (hp.local n) }

-- ---- the next token

-- a room that stays, and is there at some depth
pub record Grows (d : ℕ) (room : ℕ → Bool) : Type 0 where
  pub stays : (n : ℕ) → d ≤ n → room d ≡ true → room n ≡ true
  pub enough : ℕ
  pub there : (n : ℕ) → enough ≤ n → room n ≡ true

module _ {A B : Type 0} (C : Type 0) (d : ℕ) (look : Lexeme → Option B) (room : ℕ → Bool) (p : ℕ → B → Place → Parser A) (q : ℕ → Parser A) (grows : Grows d room)
    (hp : (b : B) (pl : Place) → Fam (C × (room d ≡ true)) d (λ n. p n b pl)) (hq : Fam C d q) where
  on_kept : C → KeptAt (λ n. on look (room n) (p n) (q n)) d
  on_kept c [] = missed [] tt
    where
      missed : (ts : List Token) → Misses look ts → Kept (λ n. on look (room n) (p n) (q n)) d ts (on look (room d) (p d) (q d) ts)
      missed ts m = subst (Kept (λ n. on look (room n) (p n) (q n)) d ts) (sym (on_miss look (room d) (p d) (q d) ts m))
          (same_kept d (λ n. on look (room n) (p n) (q n)) q ts ts (λ n h. on_miss look (room n) (p n) (q n) ts m) (q d ts) (hq.kept c ts))
  on_kept c (x ∷ ts) = at_token (look x.what) refl (room d) refl
    where
      whole : ℕ → Parser A
      whole n = on look (room n) (p n) (q n)

      at_token : (o : Option B) → look x.what ≡ o → (r : Bool) → room d ≡ r → Kept (λ n. on look (room n) (p n) (q n)) d (x ∷ ts) (on look (room d) (p d) (q d) (x ∷ ts))
      at_token None e r f = subst (Kept (λ n. on look (room n) (p n) (q n)) d (x ∷ ts)) (sym (on_miss look (room d) (p d) (q d) (x ∷ ts) e))
          (same_kept d (λ n. on look (room n) (p n) (q n)) q (x ∷ ts) (x ∷ ts) (λ n h. on_miss look (room n) (p n) (q n) (x ∷ ts) e) (q d (x ∷ ts)) (hq.kept c (x ∷ ts)))
      at_token (Some b) e true f = subst (Kept (λ n. on look (room n) (p n) (q n)) d (x ∷ ts)) (sym (on_hit look (room d) (p d) (q d) x ts b f e))
          (same_kept d (λ n. on look (room n) (p n) (q n)) (λ n. p n b x.place) (x ∷ ts) ts (λ n h. on_hit look (room n) (p n) (q n) x ts b (grows.stays n h f) e) (p d b x.place ts)
          ((hp b x.place).kept (c, f) ts))
      at_token (Some b) e false f = subst (Kept (λ n. on look (room n) (p n) (q n)) d (x ∷ ts)) (sym (on_deep look (room d) (p d) (q d) x ts b f e)) (
        grows.enough,
        λ n h.
            subst (λ z. Past z (x ∷ ts)) (sym (on_hit look (room n) (p n) (q n) x ts b (grows.there n h) e))
            (past_left (p n b x.place ts) (x ∷ ts) (omega (arith, left_at_most (p n b x.place) ts (p n b x.place ts) ((hp b x.place).local n ts)))),
      )

  pub on_fam : ((n : Bytes) → look (l.Name n) ≡ None) → look l.End ≡ None → Fam C d (λ n. on look (room n) (p n) (q n))
  on_fam no_name no_end = record { kept = on_kept; local = λ n. on_local look (room n) (p n) (q n) no_name no_end (λ b pl. (hp b pl).local n) (hq.local n) }

module _ {A : Type 0} (C : Type 0) (d : ℕ) (room : ℕ → Bool) (p : ℕ → Bytes → Place → Parser A) (q : ℕ → Parser A) (grows : Grows d room)
    (hp : (b : Bytes) (pl : Place) → Fam (C × (room d ≡ true)) d (λ n. p n b pl)) (hq : Fam C d q) where
  pub name_fam : Fam C d (λ n. on a_name (room n) (p n) (q n))
  name_fam = record { kept = on_kept C d a_name room p q grows hp hq; local = λ n. name_local (room n) (p n) (q n) (λ b pl. (hp b pl).local n) (hq.local n) }

pub always : (d : ℕ) → Grows d (λ _. true)
always d = record { stays = λ n h e. e; enough = 0; there = λ n h. refl }

pub expect_fam : (C : Type 0) (d : ℕ) (x : Lexeme) → ((n : Bytes) → is x (l.Name n) ≡ None) → is x l.End ≡ None → Fam C d (λ _. expect x)
unfolding expect
expect_fam C d x no_name no_end = on_fam C d (is x) (λ _. true) (λ _ _ p. pure p) (λ _. refuse) (always d) (λ _ p. pure_fam (C × (true ≡ true)) d p) (refuse_fam Place C d) no_name no_end

pub attribute_fam : (C : Type 0) (d : ℕ) → Fam C d (λ _. attribute_name)
unfolding attribute_name
attribute_fam C d = record { kept = λ _. each; local = λ _. attribute_local }
  where
    each : (ts : List Token) → Kept (λ _. attribute_name) d ts (attribute_name ts)
    each [] = λ n h. refl
    each (x ∷ ts) = by_name (a_name x.what) refl
      where
        by_text : (n : Bytes) → a_name x.what ≡ Some n → (c : Bool) → pointwise nat_eq n const_name ≡ c → Kept (λ _. attribute_name) d (x ∷ ts) (attribute_name (x ∷ ts))
        by_text n e true c = subst (Kept (λ _. attribute_name) d (x ∷ ts)) (sym (attribute_taken x ts n e c)) (λ m h. attribute_taken x ts n e c)
        by_text n e false c = subst (Kept (λ _. attribute_name) d (x ∷ ts)) (sym (attribute_refused x ts n e c)) (λ m h. attribute_refused x ts n e c)

        by_name : (o : Option Bytes) → a_name x.what ≡ o → Kept (λ _. attribute_name) d (x ∷ ts) (attribute_name (x ∷ ts))
        by_name None e = subst (Kept (λ _. attribute_name) d (x ∷ ts)) (sym (attribute_other x ts e)) (λ m h. attribute_other x ts e)
        by_name (Some n) e = by_text n e (pointwise nat_eq n const_name) refl

pub before_fam : {A : Type 0} (C : Type 0) (d : ℕ) (test : Lexeme → Bool) (p q : ℕ → Parser A) → ((n m : Bytes) → test (l.Name n) ≡ test (l.Name m)) → Fam C d p → Fam C d q → Fam C d (λ n. before test (p n) (q n))
unfolding before
before_fam C d test p q names hp hq = record { kept = each; local = λ n. before_local test (p n) (q n) names (hp.local n) (hq.local n) }
  where
    each : C → KeptAt (λ n. before test (p n) (q n)) d
    each c [] = same_kept d (λ n. before test (p n) (q n)) q [] [] (λ n h. refl) (q d []) (hq.kept c [])
    each c (x ∷ ts) = by_test (test x.what) refl
      where
        by_test : (b : Bool) → test x.what ≡ b → Kept (λ n. before test (p n) (q n)) d (x ∷ ts) (if b then p d (x ∷ ts) else q d (x ∷ ts))
        by_test true e = same_kept d (λ n. before test (p n) (q n)) p (x ∷ ts) (x ∷ ts) (λ n h. ap (λ b. if b then p n (x ∷ ts) else q n (x ∷ ts)) e) (p d (x ∷ ts)) (hp.kept c (x ∷ ts))
        by_test false e = same_kept d (λ n. before test (p n) (q n)) q (x ∷ ts) (x ∷ ts) (λ n h. ap (λ b. if b then p n (x ∷ ts) else q n (x ∷ ts)) e) (q d (x ∷ ts)) (hq.kept c (x ∷ ts))

-- ---- loops

-- what the turns yield
abbrev pub Yields : {S A : Type 0} → (S → Type 0) → Outcome (Turn S A) → Type 0
Yields I (Ok (again s, rest)) = I s
Yields I (Ok (done a, rest)) = Unit {0}
Yields I (Err stop) = Unit {0}

module _ {S A : Type 0} (C : Type 0) (d : ℕ) (step : ℕ → S → Parser (Turn S A)) (shrinks : (n : ℕ) → Shrinks (step n)) (I : S → Type 0)
    (local : (n : ℕ) (s : S) → Local (step n s)) (each : (s : S) → I s → Fam C d (λ n. step n s)) (yields : (s : S) (ts : List Token) → I s → Yields I (step d s ts)) where
  many_turn : C → (s : S) (ts : List Token) → I s → TurnMeets (step d) (shrinks d) (λ s ts r. Kept (λ n. many (step n) s) d ts r) (λ s ts. I s) s ts (step d s ts)
  many_turn c s ts i = by_result (step d s ts) ((each s i).kept c ts) (yields s ts i)
    where
      by_result : (r : Outcome (Turn S A)) → Kept (λ n. step n s) d ts r → Yields I r → TurnMeets (step d) (shrinks d) (λ s ts r. Kept (λ n. many (step n) s) d ts r) (λ s ts. I s) s ts r
      by_result (Ok (again s', rest)) k y = (y, λ r q. same_kept d (λ n. many (step n) s) (λ n. many (step n) s') ts rest (λ n h. many_again (step n) (shrinks n) s s' ts rest (k n h)) r q)
      by_result (Ok (done a, rest)) k y = λ n h. many_done (step n) (shrinks n) s ts rest a (k n h)
      by_result (Err (bad, rest)) k y = λ n h. many_fails (step n) (shrinks n) s ts (bad, rest) (k n h)
      by_result (Err (attribute, rest)) k y = λ n h. many_fails (step n) (shrinks n) s ts (attribute, rest) (k n h)
      by_result (Err (deep, rest)) k y = (k.0, λ n h. many_past (step n) (shrinks n) (local n) s ts rest (k.1 n h))

  pub many_fam : (s : S) → I s → Fam C d (λ n. many (step n) s)
  many_fam s i = record {
    kept = λ c ts. many_meets (step d) (shrinks d) (λ s ts r. Kept (λ n. many (step n) s) d ts r) (λ s ts. I s) (many_turn c) s ts i;
    local = λ n. many_local (step n) (shrinks n) (local n) s;
  }

-- where nothing need be known of what the turns work on
pub anything : {S A : Type 0} (r : Outcome (Turn S A)) → Yields (λ _. Unit {0}) r
anything (Ok (again s, rest)) = tt
anything (Ok (done a, rest)) = tt
anything (Err stop) = tt

-- ---- the same, with what is found from the goal

pub pure_f : {A C : Type 0} {d : ℕ} (a : A) → Fam C d (λ _. pure a)
pure_f {A} {C} {d} a = pure_fam C d a

pub refuse_f : {C : Type 0} {d : ℕ} (A : Type 0) → Fam C d (λ _. refuse {A = A})
refuse_f {C} {d} A = refuse_fam A C d

pub bind_f : {A B C : Type 0} {d : ℕ} (p : ℕ → Parser A) (f : ℕ → A → Parser B) → ((a : A) → Fam C d (λ n. f n a)) → Fam C d p → Fam C d (λ n. p n >>= f n)
bind_f {C = C} {d = d} p f each hp = bind_fam C d p f hp each

pub expect_f : {C : Type 0} {d : ℕ} (x : Lexeme) → ((n : Bytes) → is x (l.Name n) ≡ None) → is x l.End ≡ None → Fam C d (λ _. expect x)
expect_f {C} {d} x no_name no_end = expect_fam C d x no_name no_end

pub on_room : {A B C : Type 0} {d : ℕ} (look : Lexeme → Option B) (room : ℕ → Bool) (p : ℕ → B → Place → Parser A) (q : ℕ → Parser A) → Grows d room
    → ((n : Bytes) → look (l.Name n) ≡ None) → look l.End ≡ None → ((b : B) (pl : Place) → Fam (C × (room d ≡ true)) d (λ n. p n b pl)) → Fam C d q → Fam C d (λ n. on look (room n) (p n) (q n))
on_room {C = C} {d = d} look room p q g no_name no_end hp hq = on_fam C d look room p q g hp hq no_name no_end

pub on_true : {A B C : Type 0} {d : ℕ} (look : Lexeme → Option B) (p : ℕ → B → Place → Parser A) (q : ℕ → Parser A)
    → ((n : Bytes) → look (l.Name n) ≡ None) → look l.End ≡ None → ((b : B) (pl : Place) → Fam C d (λ n. p n b pl)) → Fam C d q → Fam C d (λ n. on look true (p n) (q n))
on_true {C = C} {d = d} look p q no_name no_end hp hq = on_fam C d look (λ _. true) p q (always d) (λ b pl. when (λ c. c.0) (hp b pl)) hq no_name no_end

pub name_room : {A C : Type 0} {d : ℕ} (room : ℕ → Bool) (p : ℕ → Bytes → Place → Parser A) (q : ℕ → Parser A) → Grows d room
    → ((b : Bytes) (pl : Place) → Fam (C × (room d ≡ true)) d (λ n. p n b pl)) → Fam C d q → Fam C d (λ n. on a_name (room n) (p n) (q n))
name_room {C = C} {d = d} room p q g hp hq = name_fam C d room p q g hp hq

pub name_true : {A C : Type 0} {d : ℕ} (p : ℕ → Bytes → Place → Parser A) (q : ℕ → Parser A) → ((b : Bytes) (pl : Place) → Fam C d (λ n. p n b pl)) → Fam C d q → Fam C d (λ n. on a_name true (p n) (q n))
name_true {C = C} {d = d} p q hp hq = name_fam C d (λ _. true) p q (always d) (λ b pl. when (λ c. c.0) (hp b pl)) hq

-- ---- what turns yield

pub yields_on : {S A B : Type 0} (I : S → Type 0) (look : Lexeme → Option B) (room : Bool) (p : B → Place → Parser (Turn S A)) (q : Parser (Turn S A))
    → ((b : B) (pl : Place) (ts : List Token) → Yields I (p b pl ts)) → ((ts : List Token) → Yields I (q ts)) → (ts : List Token) → Yields I (on look room p q ts)
unfolding on
yields_on I look room p q hp hq [] = hq []
yields_on I look room p q hp hq (x ∷ ts) = at_token (look x.what) room
  where
    at_token : (o : Option _) (c : Bool) → Yields I (at c p q o x ts)
    at_token None c = hq (x ∷ ts)
    at_token (Some b) true = hp b x.place ts
    at_token (Some b) false = tt

pub yields_bind : {S A B : Type 0} (I : S → Type 0) (p : Parser B) (f : B → Parser (Turn S A)) → ((b : B) (ts : List Token) → Yields I (f b ts)) → (ts : List Token) → Yields I ((p >>= f) ts)
yields_bind I p f h ts = by_result (p ts)
  where
    by_result : (r : Outcome _) → Yields I (and_then r f)
    by_result (Ok x) = h x.0 x.1
    by_result (Err stop) = tt

-- ---- a reader that goes on with what has a property

module _ {A B C : Type 0} {d : ℕ} (p : ℕ → Parser A) (f : ℕ → A → Parser B) (J : A → Type 0) (holds : (ts : List Token) → Meets (λ a _. J a) (λ _. Unit {0}) (p d ts))
    (each : (a : A) → J a → Fam C d (λ n. f n a)) (locals : (n : ℕ) (a : A) → Local (f n a)) (hp : Fam C d p) where
  further : (n : ℕ) (r : Outcome A) (ts : List Token) → length (left r) < length ts → length (left (and_then r (f n))) < length ts
  unfolding left
  further n (Ok x) ts h = omega (arith, h, left_at_most (f n x.0) x.1 (f n x.0 x.1) (locals n x.0 x.1))
  further n (Err stop) ts h = h

  for_result : C → (ts : List Token) (r : Outcome A) → Kept p d ts r → Meets (λ a _. J a) (λ _. Unit {0}) r → Kept (λ n. p n >>= f n) d ts (and_then r (f d))
  for_result c ts (Ok x) k j = same_kept d (λ n. p n >>= f n) (λ n. f n x.0) ts x.1 (λ n h. ap (λ r. and_then r (f n)) (k n h)) (f d x.0 x.1) ((each x.0 j).kept c x.1)
  for_result c ts (Err (bad, rest)) k j = λ n h. ap (λ r. and_then r (f n)) (k n h)
  for_result c ts (Err (attribute, rest)) k j = λ n h. ap (λ r. and_then r (f n)) (k n h)
  for_result c ts (Err (deep, rest)) k j = (k.0, λ n h. past_left (and_then (p n ts) (f n)) rest (further n (p n ts) rest (left_past (p n ts) rest (k.1 n h))))

  pub bind_where : Fam C d (λ n. p n >>= f n)
  bind_where = record { kept = λ c ts. for_result c ts (p d ts) (hp.kept c ts) (holds ts); local = λ n. bind_local (p n) (f n) (locals n) (hp.local n) }

pub any_meets : {A : Type 0} (r : Outcome A) → Meets (λ _ _. Unit {0}) (λ _. Unit {0}) r
any_meets (Ok x) = tt
any_meets (Err stop) = tt
