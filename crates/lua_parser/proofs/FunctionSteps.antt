-- What the readers of a `function` statement give, by the next token.
use Rattle.std.proofs.Common.{◌≡◌, ◌∙◌, ap, ℕ, ◌-◌, true, false, nat_le, List, [], ◌∷◌, Some, None, Ok, Err}
use Rattle.lua_tokens.specs.declared.place.Place.{Place}
use Rattle.lua_tokens.specs.declared.token.Token.{Token}
use Rattle.lua_tokens.specs.declared.token.Lexeme.TheVariants as l
use Rattle.lua_tokens.specs.declared.sign.Sign.TheVariants as s
use Rattle.lua_tree.specs.declared.expr.Expr.{Expr}
use Rattle.lua_grammar.specs.declared.measured.Measured.{Measured}
use Rattle.lua_grammar.specs.Tokens.{self_name}
use Rattle.lua_grammar.specs.Written.{Bytes}
use Rattle.lua_grammar.specs.Next.{a_name}
use Rattle.lua_grammar.specs.Input.{Stop, bad, deep, and_then, refuse, on}
use Rattle.lua_grammar.specs.Expressions.{name_leaf, dotted}
use Rattle.lua_grammar.specs.Statements as spec
use Rattle.lua_grammar.specs.Statements.{parts}
use Rattle.lua_grammar.proofs.Levels.{parts_depth}
use Rattle.lua_parser.specs.Looks.{rest, place_of, name_at}
use Rattle.lua_parser.specs.Steps.{over}
use Rattle.lua_parser.proofs.Steps.{is_miss, is_deep}
use Rattle.lua_parser.proofs.NextFound.{it_stands, name_stands, name_miss}
use Rattle.lua_grammar.specs.Next.{is_sign}

module _ (d : ℕ) (at : Place) (e : Measured Expr) (ts : List Token) where
  path_at : over d spec.after_path at e ts
      ≡ on (is_sign s.Colon) (nat_le e.depth (d - 1)) (λ _ p. on a_name true (λ n q. over d spec.defined at (dotted e p n q) ((self_name, q) ∷ [])) refuse) (over d spec.defined at e []) ts
  unfolding spec.after_path
  path_at = ap (λ m. on (is_sign s.Colon) (nat_le e.depth m) (λ _ p. on a_name true (λ n q. over d spec.defined at (dotted e p n q) ((self_name, q) ∷ [])) refuse) (over d spec.defined at e []) ts) (parts_depth (d - 1))

  at_colon : (p : Place) → place_of (l.Sign s.Colon) ts ≡ Some p → nat_le e.depth (d - 1) ≡ true
      → over d spec.after_path at e ts ≡ on a_name true (λ n q. over d spec.defined at (dotted e p n q) ((self_name, q) ∷ [])) refuse (rest ts)
  unfolding on
  at_colon p h r = path_at
      ∙ ap (λ c. on (is_sign s.Colon) c (λ _ p. on a_name true (λ n q. over d spec.defined at (dotted e p n q) ((self_name, q) ∷ [])) refuse) (over d spec.defined at e []) ts) r
      ∙ ap (on (is_sign s.Colon) true (λ _ p. on a_name true (λ n q. over d spec.defined at (dotted e p n q) ((self_name, q) ∷ [])) refuse) (over d spec.defined at e [])) (it_stands (l.Sign s.Colon) tt ts p h)

  pub method_read : (p q : Place) (n : Bytes) → place_of (l.Sign s.Colon) ts ≡ Some p → nat_le e.depth (d - 1) ≡ true → name_at (rest ts) ≡ Some (n, q)
      → over d spec.after_path at e ts ≡ over d spec.defined at (dotted e p n q) ((self_name, q) ∷ []) (rest (rest ts))
  unfolding on
  method_read p q n h r f = at_colon p h r ∙ ap (on a_name true (λ n q. over d spec.defined at (dotted e p n q) ((self_name, q) ∷ [])) refuse) (name_stands (rest ts) n q f)

  pub method_nothing : (p : Place) → place_of (l.Sign s.Colon) ts ≡ Some p → nat_le e.depth (d - 1) ≡ true → name_at (rest ts) ≡ None → over d spec.after_path at e ts ≡ Err (bad, rest ts)
  method_nothing p h r f = at_colon p h r ∙ name_miss _ _ _ (rest ts) f

  pub method_deep : (place_of (l.Sign s.Colon) ts ≡ None → ⊥) → nat_le e.depth (d - 1) ≡ false → over d spec.after_path at e ts ≡ Err (deep, ts)
  method_deep h r = path_at ∙ is_deep (l.Sign s.Colon) _ _ _ ts h r

  pub no_method : place_of (l.Sign s.Colon) ts ≡ None → over d spec.after_path at e ts ≡ over d spec.defined at e [] ts
  unfolding spec.after_path
  no_method h = is_miss (l.Sign s.Colon) _ _ _ ts h

module _ (d : ℕ) (at : Place) (ts : List Token) where
  at_first : (p : Place) (n : Bytes) → name_at ts ≡ Some (n, p) → over d spec.after_function at ts ≡ and_then (over d spec.path (name_leaf n p) (rest ts)) (over d spec.after_path at)
  unfolding spec.after_function on
  at_first p n h = ap (over d spec.after_function at) (name_stands ts n p h)

  pub function_path : (p : Place) (n : Bytes) (us : List Token) (e : Measured Expr) → name_at ts ≡ Some (n, p) → over d spec.path (name_leaf n p) (rest ts) ≡ Ok (e, us) → over d spec.after_function at ts ≡ over d spec.after_path at e us
  function_path p n us e h f = at_first p n h ∙ ap (λ r. and_then r (over d spec.after_path at)) f

  pub function_path_stops : (p : Place) (n : Bytes) (stop : Stop) → name_at ts ≡ Some (n, p) → over d spec.path (name_leaf n p) (rest ts) ≡ Err stop → over d spec.after_function at ts ≡ Err stop
  function_path_stops p n stop h f = at_first p n h ∙ ap (λ r. and_then r (over d spec.after_path at)) f

  pub no_path : name_at ts ≡ None → over d spec.after_function at ts ≡ Err (bad, ts)
  unfolding spec.after_function
  no_path h = name_miss _ _ _ ts h

pub ruleset method_rules = (method_read, method_nothing, method_deep, no_method)

pub ruleset function_rules = (function_path, function_path_stops, no_path)
