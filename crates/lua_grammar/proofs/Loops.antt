-- Readers leave no more tokens than they are given, and a loop of turns that each take a token has enough turns.
use Rattle.std.proofs.Common.{◌≡◌, refl, sym, ◌∙◌, ap, subst, ℕ, zero, suc, ◌<◌, ◌≤◌, Bool, true, false, if◌then◌else◌, List, [], ◌∷◌, length, Option, Some, None, Ok, Err, arith}
use Rattle.std.specs.Prelude.{nat_eq}
use Rattle.std.specs.Cmp.Lexicographic.{pointwise}
use Rattle.lua_tokens.specs.declared.place.Place.{Place}
use Rattle.lua_tokens.specs.declared.token.Token.{Token}
use Rattle.lua_tokens.specs.declared.token.Lexeme.{Lexeme}
use Rattle.lua_grammar.specs.Tokens.{const_name}
use Rattle.lua_grammar.specs.Written.{Bytes}
use Rattle.lua_grammar.specs.Next.{is, a_name}
use Rattle.lua_grammar.specs.Input.{Outcome, Parser, attribute, Stop, and_then, ◌>>=◌, pure, refuse, at, on, expect, before, by_attribute, attribute_name, Turn, again, done, turn, loop, many}

-- ---- no more tokens than before

abbrev pub AtMost : {A : Type 0} → Outcome A → List Token → Type 0
AtMost (Ok x) ts = length x.1 ≤ length ts
AtMost (Err stop) ts = Unit {0}

abbrev pub Shorter : {A : Type 0} → Parser A → Type 0
Shorter p = (ts : List Token) → AtMost (p ts) ts

at_most : {A : Type 0} (r : Outcome A) (ts us : List Token) → length ts ≤ length us → AtMost r ts → AtMost r us
at_most (Ok x) ts us h m = omega (arith, h, m)
at_most (Err stop) ts us h m = tt

-- for `pure`
pub stays : (ts : List Token) → length ts ≤ length ts
stays ts = omega arith

-- for `refuse`
pub gives_up : (ts : List Token) → Unit {0}
gives_up ts = tt

pub pure_shorter : {A : Type 0} (a : A) → Shorter (pure a)
pure_shorter a ts = omega arith

pub refuse_shorter : (A : Type 0) → Shorter (refuse {A = A})
refuse_shorter A ts = tt

module _ {A B : Type 0} (p : Parser A) (f : A → Parser B) (each : (a : A) → Shorter (f a)) where
  bound : (r : Outcome A) (ts : List Token) → AtMost r ts → AtMost (and_then r f) ts
  bound (Ok x) ts m = at_most (f x.0 x.1) x.1 ts m (each x.0 x.1)
  bound (Err stop) ts m = tt

  pub bind_shorter : Shorter p → Shorter (p >>= f)
  bind_shorter h ts = bound (p ts) ts (h ts)

module _ {A B : Type 0} (look : Lexeme → Option B) (room : Bool) (p : B → Place → Parser A) (q : Parser A) where
  pub on_shorter : ((b : B) (pl : Place) → Shorter (p b pl)) → Shorter q → Shorter (on look room p q)
  unfolding on
  on_shorter hp hq [] = hq []
  on_shorter hp hq (x ∷ ts) = at_token (look x.what) room
    where
      at_token : (o : Option B) (c : Bool) → AtMost (at c p q o x ts) (x ∷ ts)
      at_token None c = hq (x ∷ ts)
      at_token (Some b) true = at_most (p b x.place ts) ts (x ∷ ts) (omega arith) (hp b x.place ts)
      at_token (Some b) false = tt

pub expect_shorter : (x : Lexeme) → Shorter (expect x)
unfolding expect
expect_shorter x = on_shorter (is x) true (λ _ p. pure p) refuse (λ _ p. pure_shorter p) (refuse_shorter Place)

pub before_shorter : {A : Type 0} (test : Lexeme → Bool) (p q : Parser A) → Shorter p → Shorter q → Shorter (before test p q)
unfolding before
before_shorter test p q hp hq [] = hq []
before_shorter test p q hp hq (x ∷ ts) = by_test (test x.what)
  where
    by_test : (c : Bool) → AtMost (if c then p (x ∷ ts) else q (x ∷ ts)) (x ∷ ts)
    by_test true = hp (x ∷ ts)
    by_test false = hq (x ∷ ts)

pub attribute_shorter : Shorter attribute_name
unfolding attribute_name
attribute_shorter [] = tt
attribute_shorter (x ∷ ts) = at_name (a_name x.what)
  where
    at_text : (n : Bytes) (c : Bool) → AtMost (if c then Ok (x.place, ts) else Err (attribute, x ∷ ts)) (x ∷ ts)
    at_text n true = omega arith
    at_text n false = tt

    at_name : (o : Option Bytes) → AtMost (by_attribute o x ts) (x ∷ ts)
    at_name None = tt
    at_name (Some n) = at_text n (pointwise nat_eq n const_name)

-- ---- turns that take a token

abbrev pub AtTurn : {S A : Type 0} → Outcome (Turn S A) → List Token → Type 0
AtTurn (Ok (again s, rest)) ts = length rest < length ts
AtTurn (Ok (done a, rest)) ts = length rest ≤ length ts
AtTurn (Err stop) ts = Unit {0}

-- each turn but the last takes a token
abbrev pub Takes : {S A : Type 0} → Parser (Turn S A) → Type 0
Takes p = (ts : List Token) → AtTurn (p ts) ts

abbrev pub Shrinks : {S A : Type 0} → (S → Parser (Turn S A)) → Type 0
Shrinks step = (s : _) → Takes (step s)

pub done_takes : {A : Type 0} (S : Type 0) (a : A) → Takes {S = S} (pure (done a))
done_takes S a ts = omega arith

pub refuse_takes : (S A : Type 0) → Takes {S = S} {A = A} refuse
refuse_takes S A ts = tt

-- after a token was taken
taken : {S A : Type 0} (r : Outcome (Turn S A)) (x : Token) (ts : List Token) → AtMost r ts → AtTurn r (x ∷ ts)
taken (Ok (again s, rest)) x ts m = omega (arith, m)
taken (Ok (done a, rest)) x ts m = omega (arith, m)
taken (Err stop) x ts m = tt

at_turn : {S A : Type 0} (r : Outcome (Turn S A)) (ts us : List Token) → length ts ≤ length us → AtTurn r ts → AtTurn r us
at_turn (Ok (again s, rest)) ts us h m = omega (arith, h, m)
at_turn (Ok (done a, rest)) ts us h m = omega (arith, h, m)
at_turn (Err stop) ts us h m = tt

module _ {S A B : Type 0} (look : Lexeme → Option B) (room : Bool) (p : B → Place → Parser (Turn S A)) (q : Parser (Turn S A)) where
  pub on_takes : ((b : B) (pl : Place) → Shorter (p b pl)) → Takes q → Takes (on look room p q)
  unfolding on
  on_takes hp hq [] = hq []
  on_takes hp hq (x ∷ ts) = at_token (look x.what) room
    where
      at_token : (o : Option B) (c : Bool) → AtTurn (at c p q o x ts) (x ∷ ts)
      at_token None c = hq (x ∷ ts)
      at_token (Some b) true = taken (p b x.place ts) x ts (hp b x.place ts)
      at_token (Some b) false = tt

module _ {S A B : Type 0} (p : Parser B) (f : B → Parser (Turn S A)) (each : (b : B) → Takes (f b)) where
  bound_turn : (r : Outcome B) (ts : List Token) → AtMost r ts → AtTurn (and_then r f) ts
  bound_turn (Ok x) ts m = at_turn (f x.0 x.1) x.1 ts m (each x.0 x.1)
  bound_turn (Err stop) ts m = tt

  pub bind_takes : Shorter p → Takes (p >>= f)
  bind_takes h ts = bound_turn (p ts) ts (h ts)

-- ---- loops

module _ {S A : Type 0} (step : S → Parser (Turn S A)) (shrinks : Shrinks step) where
  fewer : (s s' : S) (ts rest : List Token) → step s ts ≡ Ok (again s', rest) → length rest < length ts
  fewer s s' ts rest e = subst (λ r. AtTurn r ts) e (shrinks s ts)

  stops : (s : S) (m : ℕ) (v u : List Token) (a : A) → length v < m → step s v ≡ Ok (done a, u) → loop step m s v ≡ Ok (a, u)
  unfolding loop
  stops s zero v u a lt e = absurd (omega (arith, lt))
  stops s (suc m) v u a lt e = ap (λ r. and_then r (turn (loop step m))) e

  fails : (s : S) (m : ℕ) (v : List Token) (u : Stop) → length v < m → step s v ≡ Err u → loop step m s v ≡ Err u
  unfolding loop
  fails s zero v u lt e = absurd (omega (arith, lt))
  fails s (suc m) v u lt e = ap (λ r. and_then r (turn (loop step m))) e

  goes : (s s' : S) (m : ℕ) (v u : List Token) → step s v ≡ Ok (again s', u) → loop step (suc m) s v ≡ loop step m s' u
  unfolding loop
  goes s s' m v u e = ap (λ r. and_then r (turn (loop step m))) e

  -- fuel beyond the tokens makes no difference
  same_turn : (n m : ℕ) → ((s : S) (ts : List Token) → length ts < n → length ts < m → loop step n s ts ≡ loop step m s ts)
      → (s : S) (ts : List Token) → length ts < suc n → length ts < suc m → (r : Outcome (Turn S A)) → step s ts ≡ r → loop step (suc n) s ts ≡ loop step (suc m) s ts
  same_turn n m ih s ts a b (Ok (again s', rest)) e =
      let lt : length rest < length ts = fewer s s' ts rest e in
      goes s s' n ts rest e ∙ ih s' rest (omega arith) (omega arith) ∙ sym (goes s s' m ts rest e)
  same_turn n m ih s ts a b (Ok (done z, rest)) e = stops s (suc n) ts rest z a e ∙ sym (stops s (suc m) ts rest z b e)
  same_turn n m ih s ts a b (Err rest) e = fails s (suc n) ts rest a e ∙ sym (fails s (suc m) ts rest b e)

  enough : (n m : ℕ) (s : S) (ts : List Token) → length ts < n → length ts < m → loop step n s ts ≡ loop step m s ts
  enough zero m s ts a b = absurd (omega (arith, a))
  enough (suc n) zero s ts a b = absurd (omega (arith, b))
  enough (suc n) (suc m) s ts a b = same_turn n m (enough n m) s ts a b (step s ts) refl

  -- ---- the equations of `many`

  pub many_done : (s : S) (ts rest : List Token) (a : A) → step s ts ≡ Ok (done a, rest) → many step s ts ≡ Ok (a, rest)
  unfolding many
  many_done s ts rest a e = stops s (suc (length ts)) ts rest a (omega arith) e

  pub many_fails : (s : S) (ts : List Token) (stop : Stop) → step s ts ≡ Err stop → many step s ts ≡ Err stop
  unfolding many
  many_fails s ts stop e = fails s (suc (length ts)) ts stop (omega arith) e

  pub many_again : (s s' : S) (ts rest : List Token) → step s ts ≡ Ok (again s', rest) → many step s ts ≡ many step s' rest
  unfolding many
  many_again s s' ts rest e =
      let lt : length rest < length ts = fewer s s' ts rest e in
      goes s s' (length ts) ts rest e ∙ enough (length ts) (suc (length rest)) s' rest lt (omega arith)

  -- ---- an induction over the turns: from one fact about each

  module _ (Q : S → List Token → Outcome A → Type 0) (I : S → List Token → Type 0) where
    abbrev pub TurnMeets : S → List Token → Outcome (Turn S A) → Type 0
    TurnMeets s ts (Ok (again s', rest)) = I s' rest × ((r : Outcome A) → Q s' rest r → Q s ts r)
    TurnMeets s ts (Ok (done a, rest)) = Q s ts (Ok (a, rest))
    TurnMeets s ts (Err stop) = Q s ts (Err stop)

    module _ (each : (s : S) (ts : List Token) → I s ts → TurnMeets s ts (step s ts)) where
      one_turn : (n : ℕ) → ((s : S) (ts : List Token) → length ts < n → I s ts → Q s ts (many step s ts))
          → (s : S) (ts : List Token) → length ts < suc n → I s ts → (r : Outcome (Turn S A)) → step s ts ≡ r → TurnMeets s ts r → Q s ts (many step s ts)
      one_turn n ih s ts lt i (Ok (again s', rest)) e t =
          let le : length rest < length ts = fewer s s' ts rest e in
          subst (Q s ts) (sym (many_again s s' ts rest e)) (t.1 (many step s' rest) (ih s' rest (omega arith) t.0))
      one_turn n ih s ts lt i (Ok (done z, rest)) e t = subst (Q s ts) (sym (many_done s ts rest z e)) t
      one_turn n ih s ts lt i (Err stop) e t = subst (Q s ts) (sym (many_fails s ts stop e)) t

      turns : (n : ℕ) (s : S) (ts : List Token) → length ts < n → I s ts → Q s ts (many step s ts)
      turns zero s ts lt i = absurd (omega (arith, lt))
      turns (suc n) s ts lt i = one_turn n (turns n) s ts lt i (step s ts) refl (each s ts i)

      pub many_meets : (s : S) (ts : List Token) → I s ts → Q s ts (many step s ts)
      many_meets s ts i = turns (suc (length ts)) s ts (omega arith) i

  -- ---- a loop leaves no more tokens than it is given

  shorter_turn : (s : S) (ts : List Token) → Unit {0} → TurnMeets (λ s ts r. AtMost r ts) (λ s ts. Unit {0}) s ts (step s ts)
  shorter_turn s ts _ = by_result (step s ts) (shrinks s ts)
    where
      by_result : (r : Outcome (Turn S A)) → AtTurn r ts → TurnMeets (λ s ts r. AtMost r ts) (λ s ts. Unit {0}) s ts r
      by_result (Ok (again s', rest)) m = (tt, λ r q. at_most r rest ts (omega (arith, m)) q)
      by_result (Ok (done a, rest)) m = m
      by_result (Err stop) m = tt

  pub many_shorter : (s : S) → Shorter (many step s)
  many_shorter s ts = many_meets (λ s ts r. AtMost r ts) (λ s ts. Unit {0}) shorter_turn s ts tt
