-- What the readers of a `for` give, by the next token.
use Rattle.std.proofs.Common.{◌≡◌, ◌∙◌, ap, ℕ, true, List, Some, None, Ok, Err}
use Rattle.lua_tokens.specs.declared.place.Place.{Place}
use Rattle.lua_tokens.specs.declared.token.Token.{Token}
use Rattle.lua_tokens.specs.declared.token.Lexeme.TheVariants as l
use Rattle.lua_tokens.specs.declared.sign.Sign.TheVariants as s
use Rattle.lua_tree.specs.declared.expr.Expr.{Expr}
use Rattle.lua_grammar.specs.declared.measured.Measured.{Measured}
use Rattle.lua_grammar.specs.Written.{Bytes}
use Rattle.lua_grammar.specs.Input.{Stop, bad, and_then, pure, on}
use Rattle.lua_grammar.specs.Expressions.{measured}
use Rattle.lua_grammar.specs.Statements as spec
use Rattle.lua_grammar.specs.Statements.{parts}
use Rattle.lua_parser.specs.Looks.{rest, place_of, name_at}
use Rattle.lua_parser.specs.Steps.{over}
use Rattle.lua_parser.proofs.Steps.{is_miss}
use Rattle.lua_parser.proofs.NextFound.{it_stands, name_stands, name_miss}
use Rattle.lua_grammar.specs.Next.{is_sign}

module _ (d : ℕ) (ts : List Token) where
  at_comma : (p : Place) → place_of (l.Sign s.Comma) ts ≡ Some p → over d spec.for_step ts ≡ and_then ((parts d).expr 0 (rest ts)) (λ e. pure (measured (Some e.what) e.depth))
  unfolding spec.for_step on
  at_comma p h = ap (over d spec.for_step) (it_stands (l.Sign s.Comma) tt ts p h)

  pub step_read : (p : Place) (us : List Token) (e : Measured Expr) → place_of (l.Sign s.Comma) ts ≡ Some p → (parts d).expr 0 (rest ts) ≡ Ok (e, us) → over d spec.for_step ts ≡ Ok (measured (Some e.what) e.depth, us)
  step_read p us e h f = at_comma p h ∙ ap (λ r. and_then r (λ e. pure (measured (Some e.what) e.depth))) f

  pub step_stops : (p : Place) (stop : Stop) → place_of (l.Sign s.Comma) ts ≡ Some p → (parts d).expr 0 (rest ts) ≡ Err stop → over d spec.for_step ts ≡ Err stop
  step_stops p stop h f = at_comma p h ∙ ap (λ r. and_then r (λ e. pure (measured (Some e.what) e.depth))) f

  pub no_step : place_of (l.Sign s.Comma) ts ≡ None → over d spec.for_step ts ≡ Ok (measured None 0, ts)
  unfolding spec.for_step
  no_step h = is_miss (l.Sign s.Comma) _ _ _ ts h

  at_variable : (p : Place) (n : Bytes) → name_at ts ≡ Some (n, p) → over d spec.after_for ts ≡ on (is_sign s.Equal) true (λ _ _. over d spec.for_numbers n p) (over d spec.for_each n p) (rest ts)
  unfolding spec.after_for on
  at_variable p n h = ap (over d spec.after_for) (name_stands ts n p h)

  pub for_equal : (p q : Place) (n : Bytes) → name_at ts ≡ Some (n, p) → place_of (l.Sign s.Equal) (rest ts) ≡ Some q → over d spec.after_for ts ≡ over d spec.for_numbers n p (rest (rest ts))
  unfolding on
  for_equal p q n h e = at_variable p n h ∙ ap (on (is_sign s.Equal) true (λ _ _. over d spec.for_numbers n p) (over d spec.for_each n p)) (it_stands (l.Sign s.Equal) tt (rest ts) q e)

  pub for_in : (p : Place) (n : Bytes) → name_at ts ≡ Some (n, p) → place_of (l.Sign s.Equal) (rest ts) ≡ None → over d spec.after_for ts ≡ over d spec.for_each n p (rest ts)
  for_in p n h e = at_variable p n h ∙ is_miss (l.Sign s.Equal) _ _ _ (rest ts) e

  pub for_nothing : name_at ts ≡ None → over d spec.after_for ts ≡ Err (bad, ts)
  unfolding spec.after_for
  for_nothing h = name_miss _ _ _ ts h

pub ruleset step_rules = (step_read, step_stops, no_step)

pub ruleset for_rules = (for_equal, for_in, for_nothing)
