-- The turns of a list of expressions.
use Rattle.std.proofs.Common.{◌≡◌, refl, ◌∙◌, ap, ℕ, true, List, Some, None, Ok, Err}
use Rattle.lua_tokens.specs.declared.place.Place.{Place}
use Rattle.lua_tokens.specs.declared.token.Token.{Token}
use Rattle.lua_tokens.specs.declared.token.Lexeme.TheVariants as l
use Rattle.lua_tokens.specs.declared.sign.Sign.TheVariants as s
use Rattle.lua_tree.specs.declared.expr.Expr.{Expr}
use Rattle.lua_grammar.specs.declared.measured.Measured.{Measured}
use Rattle.lua_grammar.specs.Input.{Stop, and_then, pure, again}
use Rattle.lua_grammar.specs.Expressions.{with_one, list_turn, more_exprs}
use Rattle.lua_grammar.specs.Statements.{parts}
use Rattle.lua_grammar.proofs.Loops.{many_done, many_fails, many_again}
use Rattle.lua_grammar.proofs.Shorter.{list_shrinks, parts_shorter}
use Rattle.lua_parser.specs.Looks.{rest, place_of}
use Rattle.lua_parser.proofs.Less.{expr_less}
use Rattle.lua_parser.proofs.Steps.{is_hit, is_miss}

module _ (d : ℕ) (found : Measured (List Expr)) (ts : List Token) where
  pub list_more : (pl : Place) (us : List Token) (x : Measured Expr) → place_of (l.Sign s.Comma) ts ≡ Some pl → (parts d).expr 0 (rest ts) ≡ Ok (x, us)
      → more_exprs (parts d) found ts ≡ more_exprs (parts d) (with_one found x) us
  unfolding more_exprs
  list_more pl us x h e = many_again (list_turn (parts d)) (list_shrinks (parts d) (parts_shorter d)) found (with_one found x) ts us
      (is_hit (l.Sign s.Comma) true _ _ ts pl h refl ∙ ap (λ r. and_then r (λ x. pure (again (with_one found x)))) e)

  pub list_stop : (pl : Place) (stop : Stop) → place_of (l.Sign s.Comma) ts ≡ Some pl → (parts d).expr 0 (rest ts) ≡ Err stop → more_exprs (parts d) found ts ≡ Err stop
  unfolding more_exprs
  list_stop pl stop h e = many_fails (list_turn (parts d)) (list_shrinks (parts d) (parts_shorter d)) found ts stop
      (is_hit (l.Sign s.Comma) true _ _ ts pl h refl ∙ ap (λ r. and_then r (λ x. pure (again (with_one found x)))) e)

  pub list_end : place_of (l.Sign s.Comma) ts ≡ None → more_exprs (parts d) found ts ≡ Ok (found, ts)
  unfolding more_exprs
  list_end h = many_done (list_turn (parts d)) (list_shrinks (parts d) (parts_shorter d)) found ts ts found (is_miss (l.Sign s.Comma) true _ _ ts h)

pub ruleset list_rules = (list_more, list_stop, list_end, expr_less)
