-- What the reader of a target gives, by the next token.
use Rattle.std.proofs.Common.{◌≡◌, ◌∙◌, ap, ℕ, ◌-◌, true, false, nat_le, List, Some, None, Ok, Err}
use Rattle.lua_tokens.specs.declared.place.Place.{Place}
use Rattle.lua_tokens.specs.declared.token.Token.{Token}
use Rattle.lua_tokens.specs.declared.token.Lexeme.TheVariants as l
use Rattle.lua_tokens.specs.declared.sign.Sign.TheVariants as s
use Rattle.lua_tree.specs.declared.expr.Expr.{Expr}
use Rattle.lua_grammar.specs.declared.measured.Measured.{Measured}
use Rattle.lua_grammar.specs.Written.{Bytes}
use Rattle.lua_grammar.specs.Next.{a_name}
use Rattle.lua_grammar.specs.Input.{Stop, bad, deep, and_then, ◌>>=◌, refuse, on}
use Rattle.lua_grammar.specs.Expressions.{name_leaf, group}
use Rattle.lua_grammar.specs.Statements as spec
use Rattle.lua_grammar.specs.Statements.{parts}
use Rattle.lua_grammar.proofs.Levels.{parts_depth}
use Rattle.lua_parser.specs.Looks.{rest, place_of, name_at}
use Rattle.lua_parser.specs.Steps.{over}
use Rattle.lua_parser.proofs.Steps.{is_miss, is_deep}
use Rattle.lua_parser.proofs.NextFound.{it_stands, name_stands, name_miss}
use Rattle.lua_grammar.specs.Next.{is_sign}

module _ (d : ℕ) (ts : List Token) where
  target_at : over d spec.target ts
      ≡ on a_name true (λ n p. over d spec.target_from (spec.as_variable (name_leaf n p)))
      (on (is_sign s.OpenParen) (nat_le 3 d) (λ _ p. group (parts (d - 2)) p >>= λ e. over d spec.target_from (spec.as_group e)) refuse) ts
  unfolding spec.target
  target_at = ap (λ m. on a_name true (λ n p. over d spec.target_from (spec.as_variable (name_leaf n p)))
      (on (is_sign s.OpenParen) (nat_le 3 m) (λ _ p. group (parts (d - 2)) p >>= λ e. over d spec.target_from (spec.as_group e)) refuse) ts) (parts_depth d)

  pub target_name : (p : Place) (n : Bytes) → name_at ts ≡ Some (n, p) → over d spec.target ts ≡ over d spec.target_from (spec.as_variable (name_leaf n p)) (rest ts)
  unfolding spec.target on
  target_name p n h = ap (over d spec.target) (name_stands ts n p h)

  at_open : name_at ts ≡ None → over d spec.target ts ≡ on (is_sign s.OpenParen) (nat_le 3 d) (λ _ p. group (parts (d - 2)) p >>= λ e. over d spec.target_from (spec.as_group e)) refuse ts
  at_open h = target_at ∙ name_miss _ _ _ ts h

  at_group : (p : Place) → name_at ts ≡ None → place_of (l.Sign s.OpenParen) ts ≡ Some p → nat_le 3 d ≡ true
      → over d spec.target ts ≡ and_then (group (parts (d - 2)) p (rest ts)) (λ e. over d spec.target_from (spec.as_group e))
  unfolding on
  at_group p h e r = at_open h ∙ ap (λ c. on (is_sign s.OpenParen) c (λ _ p. group (parts (d - 2)) p >>= λ e. over d spec.target_from (spec.as_group e)) refuse ts) r
      ∙ ap (on (is_sign s.OpenParen) true (λ _ p. group (parts (d - 2)) p >>= λ e. over d spec.target_from (spec.as_group e)) refuse) (it_stands (l.Sign s.OpenParen) tt ts p e)

  pub target_group : (p : Place) (us : List Token) (x : Measured Expr) → name_at ts ≡ None → place_of (l.Sign s.OpenParen) ts ≡ Some p → nat_le 3 d ≡ true → group (parts (d - 2)) p (rest ts) ≡ Ok (x, us)
      → over d spec.target ts ≡ over d spec.target_from (spec.as_group x) us
  target_group p us x h e r f = at_group p h e r ∙ ap (λ r. and_then r (λ e. over d spec.target_from (spec.as_group e))) f

  pub target_group_stops : (p : Place) (stop : Stop) → name_at ts ≡ None → place_of (l.Sign s.OpenParen) ts ≡ Some p → nat_le 3 d ≡ true → group (parts (d - 2)) p (rest ts) ≡ Err stop → over d spec.target ts ≡ Err stop
  target_group_stops p stop h e r f = at_group p h e r ∙ ap (λ r. and_then r (λ e. over d spec.target_from (spec.as_group e))) f

  pub target_deep : name_at ts ≡ None → (place_of (l.Sign s.OpenParen) ts ≡ None → ⊥) → nat_le 3 d ≡ false → over d spec.target ts ≡ Err (deep, ts)
  target_deep h e r = at_open h ∙ is_deep (l.Sign s.OpenParen) _ _ _ ts e r

  pub target_nothing : name_at ts ≡ None → place_of (l.Sign s.OpenParen) ts ≡ None → over d spec.target ts ≡ Err (bad, ts)
  target_nothing h e = at_open h ∙ is_miss (l.Sign s.OpenParen) _ _ _ ts e

pub ruleset target_rules = (target_name, target_group, target_group_stops, target_deep, target_nothing)
