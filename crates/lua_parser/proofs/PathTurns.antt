-- What one turn gives in the loop that reads the names of a `function` statement.
use Rattle.std.proofs.Common.{◌≡◌, ◌∙◌, ap, ℕ, ◌-◌, true, false, nat_le, List, Some, None, Ok, Err}
use Rattle.lua_tokens.specs.declared.place.Place.{Place}
use Rattle.lua_tokens.specs.declared.token.Token.{Token}
use Rattle.lua_tokens.specs.declared.token.Lexeme.TheVariants as l
use Rattle.lua_tokens.specs.declared.sign.Sign.TheVariants as s
use Rattle.lua_tree.specs.declared.expr.Expr.{Expr}
use Rattle.lua_grammar.specs.declared.measured.Measured.{Measured}
use Rattle.lua_grammar.specs.Written.{Bytes}
use Rattle.lua_grammar.specs.Next.{a_name}
use Rattle.lua_grammar.specs.Input.{bad, deep, pure, refuse, on, again, done}
use Rattle.lua_grammar.specs.Expressions.{dotted}
use Rattle.lua_grammar.specs.Statements as spec
use Rattle.lua_grammar.specs.Statements.{parts}
use Rattle.lua_grammar.proofs.Levels.{parts_depth}
use Rattle.lua_grammar.proofs.Loops.{Shrinks}
use Rattle.lua_grammar.proofs.Shorter as shorter
use Rattle.lua_grammar.proofs.Shorter.{parts_shorter}
use Rattle.lua_parser.specs.Looks.{rest, place_of, name_at}
use Rattle.lua_parser.specs.Steps.{over}
use Rattle.lua_parser.proofs.Steps.{is_miss, is_deep}
use Rattle.lua_parser.proofs.NextFound.{it_stands, name_stands, name_miss, name_deep, on_expected, many_steps, many_smaller, many_stops, many_ends, many_returns}
use Rattle.lua_grammar.proofs.Loops.{many_again, many_done, many_fails}
use Rattle.lua_parser.proofs.NextFound.{two_smaller}
use Rattle.lua_grammar.specs.Next.{is_sign}

shrinks : (d : ℕ) → Shrinks (over d spec.path_turn)
shrinks d = shorter.path_shrinks _ _ _ (parts_shorter d) (parts_shorter (d - 1)) (parts_shorter (d - 2))

module _ (d : ℕ) (e : Measured Expr) (ts : List Token) where
  at_depth : over d spec.path_turn e ts ≡ on (is_sign s.Dot) (nat_le e.depth (d - 1)) (λ _ p. on a_name true (λ n q. pure (again (dotted e p n q))) refuse) (pure (done e)) ts
  at_depth = ap (λ m. on (is_sign s.Dot) (nat_le e.depth m) (λ _ p. on a_name true (λ n q. pure (again (dotted e p n q))) refuse) (pure (done e)) ts) (parts_depth (d - 1))

  at_dot : (p : Place) → place_of (l.Sign s.Dot) ts ≡ Some p → nat_le e.depth (d - 1) ≡ true → over d spec.path_turn e ts ≡ on a_name true (λ n q. pure (again (dotted e p n q))) refuse (rest ts)
  unfolding on
  at_dot p h r = at_depth ∙ ap (λ c. on (is_sign s.Dot) c (λ _ p. on a_name true (λ n q. pure (again (dotted e p n q))) refuse) (pure (done e)) ts) r
      ∙ ap (on (is_sign s.Dot) true (λ _ p. on a_name true (λ n q. pure (again (dotted e p n q))) refuse) (pure (done e))) (it_stands (l.Sign s.Dot) tt ts p h)

  at_name : (p q : Place) (n : Bytes) → place_of (l.Sign s.Dot) ts ≡ Some p → nat_le e.depth (d - 1) ≡ true → name_at (rest ts) ≡ Some (n, q) → over d spec.path_turn e ts ≡ Ok (again (dotted e p n q), rest (rest ts))
  unfolding on
  at_name p q n h r f = at_dot p h r ∙ ap (on a_name true (λ n q. pure (again (dotted e p n q))) refuse) (name_stands (rest ts) n q f)

  pub path_again : (p q : Place) (n : Bytes) → place_of (l.Sign s.Dot) ts ≡ Some p → nat_le e.depth (d - 1) ≡ true → name_at (rest ts) ≡ Some (n, q) → over d spec.path e ts ≡ over d spec.path (dotted e p n q) (rest (rest ts))
  unfolding spec.path
  path_again p q n h r f = many_again _ (shrinks d) e _ ts (rest (rest ts)) (at_name p q n h r f)

  pub path_missing : (p : Place) → place_of (l.Sign s.Dot) ts ≡ Some p → nat_le e.depth (d - 1) ≡ true → name_at (rest ts) ≡ None → over d spec.path e ts ≡ Err (bad, rest ts)
  unfolding spec.path
  path_missing p h r f = many_fails _ (shrinks d) e ts (bad, rest ts) (at_dot p h r ∙ name_miss _ _ _ (rest ts) f)

  pub path_deep : (place_of (l.Sign s.Dot) ts ≡ None → ⊥) → nat_le e.depth (d - 1) ≡ false → over d spec.path e ts ≡ Err (deep, ts)
  unfolding spec.path
  path_deep h r = many_fails _ (shrinks d) e ts (deep, ts) (at_depth ∙ is_deep (l.Sign s.Dot) _ _ _ ts h r)

  pub path_end : place_of (l.Sign s.Dot) ts ≡ None → over d spec.path e ts ≡ Ok (e, ts)
  unfolding spec.path
  path_end h = many_done _ (shrinks d) e ts ts e (is_miss (l.Sign s.Dot) _ _ _ ts h)

pub ruleset path_rules = (path_again, path_missing, path_deep, path_end, two_smaller)
