-- How many tokens are left.
use Rattle.std.proofs.Common.{◌≡◌, subst, ℕ, ◌<◌, ◌≤◌, List, [], ◌∷◌, length, Option, Some, Ok, arith}
use Rattle.lua_tokens.specs.declared.place.Place.{Place}
use Rattle.lua_tokens.specs.declared.token.Token.{Token}
use Rattle.lua_tokens.specs.declared.token.Lexeme.{Lexeme}
use Rattle.lua_tree.specs.declared.expr.Expr.{Expr}
use Rattle.lua_grammar.specs.declared.measured.Measured.{Measured}
use Rattle.lua_grammar.specs.Input.{Parser, Turn, again}
use Rattle.lua_grammar.specs.Statements.{parts}
use Rattle.lua_grammar.proofs.Loops.{AtMost, Shorter, AtTurn, Shrinks}
use Rattle.lua_grammar.proofs.Shorter.{parts_shorter}
use Rattle.lua_parser.specs.Looks.{rest, place_of, look_at}

pub rest_less : (y : Lexeme) (ts : List Token) (pl : Place) → place_of y ts ≡ Some pl → length (rest ts) < length ts
unfolding rest place_of
rest_less y [] pl e = cc
rest_less y (x ∷ ts) pl e = omega arith

pub look_less : {B : Type 0} (look : Lexeme → Option B) (ts : List Token) (x : B × Place) → look_at look ts ≡ Some x → length (rest ts) < length ts
unfolding rest look_at
look_less look [] x e = cc
look_less look (y ∷ ts) x e = omega arith

-- what a reader leaves
pub left_less : {A : Type 0} (p : Parser A) → Shorter p → (ts us : List Token) (a : A) → p ts ≡ Ok (a, us) → length us ≤ length ts
left_less p h ts us a e = subst (λ r. AtMost r ts) e (h ts)

pub after_less : {A : Type 0} (p : Parser A) → Shorter p → (y : Lexeme) (ts us : List Token) (pl : Place) (a : A) → place_of y ts ≡ Some pl → p (rest ts) ≡ Ok (a, us) → length us < length ts
after_less p h y ts us pl a k e = omega (arith, left_less p h (rest ts) us a e, rest_less y ts pl k)

-- a turn that is not the last
pub turn_less : {S A : Type 0} (step : S → Parser (Turn S A)) → Shrinks step → (x z : S) (ts us : List Token) → step x ts ≡ Ok (again z, us) → length us < length ts
turn_less step h x z ts us e = subst (λ r. AtTurn r ts) e (h x ts)

module _ (d : ℕ) (y : Lexeme) (ts us : List Token) (pl : Place) where
  -- an expression after a sign or a word
  pub expr_less : (m : ℕ) (x : Measured Expr) → place_of y ts ≡ Some pl → (parts d).expr m (rest ts) ≡ Ok (x, us) → length us < length ts
  expr_less m x k e = after_less ((parts d).expr m) ((parts_shorter d).expr m) y ts us pl x k e
