-- The parameters of a function.
use Rattle.std.proofs.Common.{◌≡◌, refl, ◌∙◌, ap, ℕ, ◌<◌, Bool, true, false, List, [], ◌∷◌, ◌++◌, length, Some, None, Ok, Err}
use Rattle.lua_tokens.specs.declared.place.Place.{Place}
use Rattle.lua_tokens.specs.declared.token.Token.{Token}
use Rattle.lua_tokens.specs.declared.token.Lexeme.TheVariants as l
use Rattle.lua_tokens.specs.declared.sign.Sign.TheVariants as s
use Rattle.lua_grammar.specs.Written.{Bytes}
use Rattle.lua_grammar.specs.Input.{Stop, bad, and_then, pure, again, done}
use Rattle.lua_grammar.specs.Expressions.{param_turn, parameters}
use Rattle.lua_grammar.specs.Statements.{parts}
use Rattle.lua_grammar.proofs.Loops.{many_done, many_fails, many_again}
use Rattle.lua_grammar.proofs.Shorter.{parts_shorter, param_shrinks}
use Rattle.lua_parser.specs.Looks.{rest, place_of, name_at}
use Rattle.lua_parser.specs.Steps.{more_params, dots_end}
use Rattle.lua_parser.proofs.Less.{turn_less}
use Rattle.lua_parser.proofs.Steps.{is_hit, is_miss, name_hit, name_miss}

module _ (d : ℕ) (found : List (Bytes × Place)) (ts : List Token) where
  -- ---- after a comma

  turn_on : (p q : Place) (n : Bytes) → place_of (l.Sign s.Comma) ts ≡ Some p → name_at (rest ts) ≡ Some (n, q) → param_turn (parts d) found ts ≡ Ok (again (found ++ (n, q) ∷ []), rest (rest ts))
  turn_on p q n h k = is_hit (l.Sign s.Comma) true _ _ ts p h refl ∙ name_hit true _ _ (rest ts) n q k refl

  pub param_more : (p q : Place) (n : Bytes) → place_of (l.Sign s.Comma) ts ≡ Some p → name_at (rest ts) ≡ Some (n, q) → more_params d found ts ≡ more_params d (found ++ (n, q) ∷ []) (rest (rest ts))
  unfolding more_params
  param_more p q n h k = many_again (param_turn (parts d)) (param_shrinks (parts d) (parts_shorter d)) found (found ++ (n, q) ∷ []) ts (rest (rest ts)) (turn_on p q n h k)

  pub param_less : (p q : Place) (n : Bytes) → place_of (l.Sign s.Comma) ts ≡ Some p → name_at (rest ts) ≡ Some (n, q) → length (rest (rest ts)) < length ts
  param_less p q n h k = turn_less (param_turn (parts d)) (param_shrinks (parts d) (parts_shorter d)) found (found ++ (n, q) ∷ []) ts (rest (rest ts)) (turn_on p q n h k)

  pub param_dots : (p q : Place) (x : List (Bytes × Place) × Bool) (us : List Token) → place_of (l.Sign s.Comma) ts ≡ Some p → name_at (rest ts) ≡ None
      → place_of (l.Sign s.DotDotDot) (rest ts) ≡ Some q → dots_end d found (rest (rest ts)) ≡ Ok (x, us) → more_params d found ts ≡ Ok (x, us)
  unfolding more_params dots_end
  param_dots p q x us h n k e = many_done (param_turn (parts d)) (param_shrinks (parts d) (parts_shorter d)) found ts us x
      (is_hit (l.Sign s.Comma) true _ _ ts p h refl ∙ name_miss true _ _ (rest ts) n ∙ is_hit (l.Sign s.DotDotDot) true _ _ (rest ts) q k refl ∙ ap (λ r. and_then r (λ ps. pure (done ps))) e)

  pub param_dots_stop : (p q : Place) (stop : Stop) → place_of (l.Sign s.Comma) ts ≡ Some p → name_at (rest ts) ≡ None
      → place_of (l.Sign s.DotDotDot) (rest ts) ≡ Some q → dots_end d found (rest (rest ts)) ≡ Err stop → more_params d found ts ≡ Err stop
  unfolding more_params dots_end
  param_dots_stop p q stop h n k e = many_fails (param_turn (parts d)) (param_shrinks (parts d) (parts_shorter d)) found ts stop
      (is_hit (l.Sign s.Comma) true _ _ ts p h refl ∙ name_miss true _ _ (rest ts) n ∙ is_hit (l.Sign s.DotDotDot) true _ _ (rest ts) q k refl ∙ ap (λ r. and_then r (λ ps. pure (done ps))) e)

  pub param_bad : (p : Place) → place_of (l.Sign s.Comma) ts ≡ Some p → name_at (rest ts) ≡ None → place_of (l.Sign s.DotDotDot) (rest ts) ≡ None → more_params d found ts ≡ Err (bad, rest ts)
  unfolding more_params
  param_bad p h n k = many_fails (param_turn (parts d)) (param_shrinks (parts d) (parts_shorter d)) found ts (bad, rest ts)
      (is_hit (l.Sign s.Comma) true _ _ ts p h refl ∙ name_miss true _ _ (rest ts) n ∙ is_miss (l.Sign s.DotDotDot) true _ _ (rest ts) k)

  -- ---- after a parameter

  pub param_end : (p : Place) → place_of (l.Sign s.Comma) ts ≡ None → place_of (l.Sign s.CloseParen) ts ≡ Some p → more_params d found ts ≡ Ok ((found, false), rest ts)
  unfolding more_params
  param_end p h k = many_done (param_turn (parts d)) (param_shrinks (parts d) (parts_shorter d)) found ts (rest ts) (found, false)
      (is_miss (l.Sign s.Comma) true _ _ ts h ∙ is_hit (l.Sign s.CloseParen) true _ _ ts p k refl)

  pub param_open : place_of (l.Sign s.Comma) ts ≡ None → place_of (l.Sign s.CloseParen) ts ≡ None → more_params d found ts ≡ Err (bad, ts)
  unfolding more_params
  param_open h k = many_fails (param_turn (parts d)) (param_shrinks (parts d) (parts_shorter d)) found ts (bad, ts) (is_miss (l.Sign s.Comma) true _ _ ts h ∙ is_miss (l.Sign s.CloseParen) true _ _ ts k)

  -- ---- after the parenthesis

  pub first_name : (n : Bytes) (p : Place) → name_at ts ≡ Some (n, p) → parameters (parts d) found ts ≡ more_params d (found ++ (n, p) ∷ []) (rest ts)
  unfolding parameters more_params
  first_name n p h = name_hit true _ _ ts n p h refl

  pub first_dots : (p : Place) → name_at ts ≡ None → place_of (l.Sign s.DotDotDot) ts ≡ Some p → parameters (parts d) found ts ≡ dots_end d found (rest ts)
  unfolding parameters dots_end
  first_dots p n h = name_miss true _ _ ts n ∙ is_hit (l.Sign s.DotDotDot) true _ _ ts p h refl

  pub first_end : (p : Place) → name_at ts ≡ None → place_of (l.Sign s.DotDotDot) ts ≡ None → place_of (l.Sign s.CloseParen) ts ≡ Some p → parameters (parts d) found ts ≡ Ok ((found, false), rest ts)
  unfolding parameters
  first_end p n m h = name_miss true _ _ ts n ∙ is_miss (l.Sign s.DotDotDot) true _ _ ts m ∙ is_hit (l.Sign s.CloseParen) true _ _ ts p h refl

  pub first_bad : name_at ts ≡ None → place_of (l.Sign s.DotDotDot) ts ≡ None → place_of (l.Sign s.CloseParen) ts ≡ None → parameters (parts d) found ts ≡ Err (bad, ts)
  unfolding parameters
  first_bad n m h = name_miss true _ _ ts n ∙ is_miss (l.Sign s.DotDotDot) true _ _ ts m ∙ is_miss (l.Sign s.CloseParen) true _ _ ts h

pub ruleset more_rules = (param_more, param_less, param_dots, param_dots_stop, param_bad, param_end, param_open)

pub ruleset first_rules = (first_name, first_dots, first_end, first_bad)
