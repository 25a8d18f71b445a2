-- What a reader answers, as its callers see it: at a refusal the tokens before the refused one begin something good.
use Rattle.std.proofs.Common.{◌≡◌, refl, sym, ◌∙◌, ap, Bool, true, false, if◌then◌else◌, List, [], ◌∷◌, ◌++◌, Option, Some, None, Ok, Err, append_assoc}
use Rattle.lua_tokens.specs.declared.place.Place.{Place}
use Rattle.lua_tokens.specs.declared.token.Token.{Token}
use Rattle.lua_tokens.specs.declared.token.Lexeme.{Lexeme}
use Rattle.lua_grammar.specs.Tokens.{token}
use Rattle.lua_grammar.specs.Next.{is}
use Rattle.lua_grammar.specs.Input.{Outcome, Parser, and_then, pure, refuse, deep, at, on, expect, Turn, again, done, many}
use Rattle.lua_grammar.proofs.Loops.{Shrinks, TurnMeets, many_meets}
use Rattle.lua_grammar.proofs.Found.{IsFixed, is_found}
use Rattle.lua_grammar.proofs.Spelled.{Opens}

-- ---- an answer, and what is left at a refusal

abbrev pub Meets : {A : Type 0} → (A → List Token → Type 0) → (List Token → Type 0) → Outcome A → Type 0
Meets T Z (Ok x) = T x.0 x.1
Meets T Z (Err stop) = Z stop.1

pub weaken : {A : Type 0} (T U : A → List Token → Type 0) (Y Z : List Token → Type 0) (r : Outcome A)
    → ((a : A) (rest : List Token) → T a rest → U a rest) → ((rest : List Token) → Y rest → Z rest) → Meets T Y r → Meets U Z r
weaken T U Y Z (Ok x) f g h = f x.0 x.1 h
weaken T U Y Z (Err stop) f g h = g stop.1 h

pub then_meets : {A B : Type 0} (f : A → Parser B) (T : A → List Token → Type 0) (U : B → List Token → Type 0) (Y Z : List Token → Type 0) (r : Outcome A)
    → Meets T Y r → ((rest : List Token) → Y rest → Z rest) → ((a : A) (rest : List Token) → T a rest → Meets U Z (f a rest)) → Meets U Z (and_then r f)
then_meets f T U Y Z (Ok x) h g each = each x.0 x.1 h
then_meets f T U Y Z (Err stop) h g each = g stop.1 h

-- ---- the next token

abbrev pub Misses : {B : Type 0} → (Lexeme → Option B) → List Token → Type 0
Misses look [] = Unit {0}
Misses look (x ∷ ts) = look x.what ≡ None

module _ {A B : Type 0} (look : Lexeme → Option B) (lexeme : B → Lexeme) (finds : (y : Lexeme) (b : B) → look y ≡ Some b → y ≡ lexeme b)
    (room : Bool) (p : B → Place → Parser A) (q : Parser A) (T : A → List Token → Type 0) (Z : List Token → Type 0) where
  pub on_meets : (ts : List Token) → Z ts → ((b : B) (pl : Place) (us : List Token) → room ≡ true → look (lexeme b) ≡ Some b → ts ≡ token (lexeme b) pl ∷ us → Meets T Z (p b pl us))
      → (Misses look ts → Meets T Z (q ts)) → Meets T Z (on look room p q ts)
  unfolding on
  on_meets [] z hit miss = miss tt
  on_meets (x ∷ ts) z hit miss = at_token (look x.what) refl
    where
      by_room : (b : B) (c : Bool) → room ≡ c → look x.what ≡ Some b → Meets T Z (if c then p b x.place ts else Err (deep, x ∷ ts))
      by_room b true r e =
          let h : x.what ≡ lexeme b = finds x.what b e in
          hit b x.place ts r (ap look (sym h) ∙ e) (ap (λ y. token y x.place ∷ ts) h)
      by_room b false r e = z

      at_token : (o : Option B) → look x.what ≡ o → Meets T Z (at room p q o x ts)
      at_token None e = miss e
      at_token (Some b) e = by_room b room refl e

-- a word, a sign or the end
module _ {A : Type 0} (x : Lexeme) (fixed : IsFixed x) (room : Bool) (p : Unit {0} → Place → Parser A) (q : Parser A) (T : A → List Token → Type 0) (Z : List Token → Type 0) where
  pub is_meets : (ts : List Token) → Z ts → ((pl : Place) (us : List Token) → room ≡ true → ts ≡ token x pl ∷ us → Meets T Z (p tt pl us)) → (Misses (is x) ts → Meets T Z (q ts)) → Meets T Z (on (is x) room p q ts)
  is_meets ts z hit miss = on_meets (is x) (λ _. x) (is_found x fixed) room p q T Z ts z (λ b pl us r _ e. hit pl us r e) miss

pub expect_meets : (x : Lexeme) (fixed : IsFixed x) (T : Place → List Token → Type 0) (Z : List Token → Type 0) (ts : List Token) → Z ts → ((pl : Place) (us : List Token) → ts ≡ token x pl ∷ us → T pl us) → Meets T Z (expect x ts)
unfolding expect
expect_meets x fixed T Z ts z hit = is_meets x fixed true (λ _ p. pure p) refuse T Z ts z (λ pl us _ e. hit pl us e) (λ _. z)

-- ---- loops

abbrev pub TurnOf : {S A : Type 0} → (S → List Token → Type 0) → (A → List Token → Type 0) → Turn S A → List Token → Type 0
TurnOf I T (again s) rest = I s rest
TurnOf I T (done a) rest = T a rest

module _ {S A : Type 0} (step : S → Parser (Turn S A)) (shrinks : Shrinks step) (I : S → List Token → Type 0) (T : A → List Token → Type 0) (Z : List Token → Type 0)
    (each : (s : S) (ts : List Token) → I s ts → Meets (TurnOf I T) Z (step s ts)) where
  one_turn : (s : S) (ts : List Token) → I s ts → TurnMeets step shrinks (λ _ _ r. Meets T Z r) I s ts (step s ts)
  one_turn s ts i = by_result (step s ts) (each s ts i)
    where
      by_result : (r : Outcome (Turn S A)) → Meets (TurnOf I T) Z r → TurnMeets step shrinks (λ _ _ r. Meets T Z r) I s ts r
      by_result (Ok (again s', rest)) m = (m, λ r q. q)
      by_result (Ok (done a, rest)) m = m
      by_result (Err stop) m = m

  pub loop_meets : (s : S) (ts : List Token) → I s ts → Meets T Z (many step s ts)
  loop_meets s ts i = many_meets step shrinks (λ _ _ r. Meets T Z r) I one_turn s ts i

-- ---- fronts

-- the tokens begin the spelling of something good
pub record Front {T : Type 0} (G : T → Type 0) (sp : T → List Token → List Token) (pre : List Token) : Type 0 where
  pub more : List Token
  pub tree : T
  pub good : G tree
  pub spelled : sp tree [] ≡ pre ++ more

-- the tokens are these before the rest, and they begin something good
pub record Fails {T : Type 0} (G : T → Type 0) (sp : T → List Token → List Token) (whole rest : List Token) : Type 0 where
  pub pre : List Token
  pub read : whole ≡ pre ++ rest
  pub front : Front G sp pre

-- A place for something good within something good: the tokens that are before it, those that close what is open, and what it makes.
pub record Context {T U : Type 0} (G : T → Type 0) (sp : T → List Token → List Token) (H : U → Type 0) (sq : U → List Token → List Token)
    (F : List Token → List Token) : Type 0 where
  pub opens : Opens F
  pub close : List Token
  pub put : T → U
  pub good : (x : T) → G x → H (put x)
  pub spelled : (x : T) → G x → sq (put x) [] ≡ F (sp x close)

pub fails_in : {T U : Type 0} {G : T → Type 0} {sp : T → List Token → List Token} {H : U → Type 0} {sq : U → List Token → List Token} {F : List Token → List Token}
    → Context G sp H sq F → ((x : T) → Opens (sp x)) → (whole ts rest : List Token) → whole ≡ F ts → Fails G sp ts rest → Fails H sq whole rest
fails_in {G = G} {sp = sp} {H = H} {sq = sq} {F = F} c app whole ts rest h f = record {
  pre = F f.pre;
  read = h ∙ ap F f.read ∙ c.opens f.pre rest;
  front = record {
    more = f.front.more ++ c.close;
    tree = c.put f.front.tree;
    good = c.good f.front.tree f.front.good;
    spelled =
        c.spelled f.front.tree f.front.good ∙ ap F (app f.front.tree [] c.close ∙ ap (λ z. z ++ c.close) f.front.spelled ∙ append_assoc f.pre f.front.more c.close)
        ∙ c.opens f.pre (f.front.more ++ c.close);
  };
}

-- refused where something that was read could be closed
pub stuck : {U : Type 0} (H : U → Type 0) (sq : U → List Token → List Token) (F : List Token → List Token) → Opens F → (more : List Token) (tree : U) → H tree → sq tree [] ≡ F more
    → (whole ts : List Token) → whole ≡ F ts → Fails H sq whole ts
stuck H sq F opens more tree g e whole ts h = record {
  pre = F [];
  read = h ∙ opens [] ts;
  front = record { more = more; tree = tree; good = g; spelled = e ∙ opens [] more };
}

pub fails_map : {T : Type 0} (G H : T → Type 0) (sp : T → List Token → List Token) (ts rest : List Token) → ((x : T) → G x → H x) → Fails G sp ts rest → Fails H sp ts rest
fails_map G H sp ts rest h f = record { pre = f.pre; read = f.read; front = record { more = f.front.more; tree = f.front.tree; good = h f.front.tree f.front.good; spelled = f.front.spelled } }
