-- What stands at a cursor, and what a reader that goes by the next token makes of it.
use Rattle.std.proofs.Common.{◌≡◌, refl, ◌∙◌, ap, subst, ◌<◌, length, arith, Bool, true, false, if◌then◌else◌, List, [], ◌∷◌, Option, Some, None, Ok, Err}
use Rattle.lua_tokens.specs.declared.place.Place.{Place}
use Rattle.lua_tokens.specs.declared.token.Token.{Token}
use Rattle.lua_tokens.specs.declared.token.Lexeme.{Lexeme}
use Rattle.lua_tokens.specs.declared.token.Lexeme.TheVariants as l
use Rattle.lua_grammar.specs.Tokens.{token, name}
use Rattle.lua_grammar.specs.Written.{Bytes}
use Rattle.lua_grammar.specs.Next.{same, is, a_name}
use Rattle.lua_grammar.specs.Input.{Outcome, Parser, Stop, deep, and_then, pure, refuse, at, on, expect, Turn, again, done, many}
use Rattle.lua_grammar.proofs.Loops.{Shrinks, AtTurn, many_done, many_fails, many_again}
use Rattle.lua_grammar.proofs.Found.{IsFixed, is_found, name_found}
use Rattle.lua_parser.proofs.Steps.{look_miss, look_deep}
use Rattle.lua_parser.specs.Looks.{rest, place_of, beside, look_at, name_at}

pub it_stands : (y : Lexeme) (fixed : IsFixed y) (ts : List Token) (p : Place) → place_of y ts ≡ Some p → ts ≡ token y p ∷ rest ts
unfolding place_of rest
it_stands y fixed [] p h = cc
it_stands y fixed (x ∷ ts) p h = by_same (same y x.what) refl h
  where
    by_same : (c : Bool) → same y x.what ≡ c → (if c then Some x.place else None) ≡ Some p → x ∷ ts ≡ token y p ∷ ts
    by_same true e h = let k : x.what ≡ y = is_found y fixed x.what tt (ap (λ c. if c then Some tt else None) e) in let q : x.place ≡ p = cc in ap (λ z. token z x.place ∷ ts) k ∙ ap (λ z. token y z ∷ ts) q
    by_same false e h = cc

pub name_stands : (ts : List Token) (n : Bytes) (p : Place) → name_at ts ≡ Some (n, p) → ts ≡ name n p ∷ rest ts
unfolding name_at look_at rest
name_stands [] n p h = cc
name_stands (x ∷ ts) n p h = by_name (a_name x.what) refl h
  where
    by_name : (o : Option Bytes) → a_name x.what ≡ o → beside o x.place ≡ Some (n, p) → x ∷ ts ≡ name n p ∷ ts
    by_name None e h = cc
    by_name (Some m) e h =
        let k : x.what ≡ l.Name m = name_found x.what m e in
        let both : ◌≡◌ {A = Bytes × Place} (m, x.place) (n, p) = cc in
        ap (λ z. token z x.place ∷ ts) k ∙ ap (λ z. name z.0 z.1 ∷ ts) both

module _ {A : Type 0} (room : Bool) (p : Bytes → Place → Parser A) (q : Parser A) (ts : List Token) where
  pub name_miss : name_at ts ≡ None → on a_name room p q ts ≡ q ts
  unfolding name_at
  name_miss h = look_miss a_name room p q ts h

  pub name_deep : (name_at ts ≡ None → ⊥) → room ≡ false → on a_name room p q ts ≡ Err (deep, ts)
  unfolding name_at
  name_deep h r = look_deep a_name room p q ts h r

-- a token that has to stand there
pub on_expected : {A : Type 0} (y : Lexeme) (f : Place → Parser A) (ts : List Token) → on (is y) true (λ _ p. f p) refuse ts ≡ and_then (expect y ts) f
unfolding on expect
on_expected y f [] = refl
on_expected y f (x ∷ ts) = by_look (is y x.what)
  where
    by_look : (o : Option (Unit {0})) → at true (λ _ p. f p) refuse o x ts ≡ and_then (at true (λ _ p. (λ us. Ok (p, us))) refuse o x ts) f
    by_look None = refl
    by_look (Some u) = refl

-- ---- a turn of a loop by what is read in it

module _ {S A B : Type 0} (step : S → Parser (Turn S A)) (shrinks : Shrinks step) (s : S) (ts : List Token) (r : Outcome B) where
  pub many_steps : (f : B → S) (x : B) (us : List Token) → step s ts ≡ and_then r (λ x. pure (again (f x))) → r ≡ Ok (x, us) → many step s ts ≡ many step (f x) us
  many_steps f x us t e = many_again step shrinks s (f x) ts us (t ∙ ap (λ r. and_then r (λ x. pure (again (f x)))) e)

  pub many_smaller : (f : B → S) (x : B) (us : List Token) → step s ts ≡ and_then r (λ x. pure (again (f x))) → r ≡ Ok (x, us) → length us < length ts
  many_smaller f x us t e = subst (λ r. AtTurn r ts) (t ∙ ap (λ r. and_then r (λ x. pure (again (f x)))) e) (shrinks s ts)

  pub many_stops : (f : B → Parser (Turn S A)) (stop : Stop) → step s ts ≡ and_then r f → r ≡ Err stop → many step s ts ≡ Err stop
  many_stops f stop t e = many_fails step shrinks s ts stop (t ∙ ap (λ r. and_then r f) e)

  pub many_ends : (f : B → A) (x : B) (us : List Token) → step s ts ≡ and_then r (λ x. pure (done (f x))) → r ≡ Ok (x, us) → many step s ts ≡ Ok (f x, us)
  many_ends f x us t e = many_done step shrinks s ts us (f x) (t ∙ ap (λ r. and_then r (λ x. pure (done (f x)))) e)

pub many_returns : {S A : Type 0} (step : S → Parser (Turn S A)) (shrinks : Shrinks step) (s : S) (ts : List Token) (r : Outcome A) → step s ts ≡ and_then r (λ x. pure (done x)) → many step s ts ≡ r
many_returns step shrinks s ts (Ok x) t = many_done step shrinks s ts x.1 x.0 t
many_returns step shrinks s ts (Err stop) t = many_fails step shrinks s ts stop t

-- two tokens were taken
pub two_smaller : (y : Lexeme) (ts : List Token) (p : Place) → place_of y ts ≡ Some p → length (rest (rest ts)) < length ts
unfolding place_of rest
two_smaller y [] p h = cc
two_smaller y (x ∷ []) p h = omega arith
two_smaller y (x ∷ z ∷ ts) p h = omega arith
