-- What one turn gives in the loop that reads the targets of an assignment.
use Rattle.std.proofs.Common.{◌≡◌, ◌∙◌, ap, ℕ, ◌-◌, ◌<◌, List, length, Some, None, Ok, Err, max}
use Rattle.lua_tokens.specs.declared.place.Place.{Place}
use Rattle.lua_tokens.specs.declared.token.Token.{Token}
use Rattle.lua_tokens.specs.declared.token.Lexeme.TheVariants as l
use Rattle.lua_tokens.specs.declared.sign.Sign.TheVariants as s
use Rattle.lua_tree.specs.declared.expr.Expr.{Expr}
use Rattle.lua_tree.specs.declared.stat.Stat.TheVariants as st
use Rattle.lua_grammar.specs.declared.measured.Measured.{Measured}
use Rattle.lua_grammar.specs.Input.{Stop, and_then, ◌>>=◌, pure, on, expect, again, done}
use Rattle.lua_grammar.specs.Expressions.{measured, with_one, list}
use Rattle.lua_grammar.specs.Statements as spec
use Rattle.lua_grammar.specs.Statements.{parts}
use Rattle.lua_grammar.proofs.Loops.{Shrinks}
use Rattle.lua_grammar.proofs.Shorter as shorter
use Rattle.lua_grammar.proofs.Shorter.{parts_shorter}
use Rattle.lua_parser.specs.Looks.{rest, place_of}
use Rattle.lua_parser.specs.Steps.{over}
use Rattle.lua_parser.proofs.Steps.{is_miss}
use Rattle.lua_parser.proofs.NextFound.{it_stands, on_expected, many_steps, many_smaller, many_stops, many_ends}

shrinks : (d : ℕ) → Shrinks (over d spec.targets_turn)
shrinks d = shorter.targets_shrinks _ _ _ (parts_shorter d) (parts_shorter (d - 1)) (parts_shorter (d - 2))

module _ (d : ℕ) (found : Measured (List Expr)) (ts : List Token) where
  at_comma : (p : Place) → place_of (l.Sign s.Comma) ts ≡ Some p → over d spec.targets_turn found ts ≡ and_then (over d spec.target (rest ts)) (λ e. pure (again (with_one found e)))
  unfolding on
  at_comma p h = ap (over d spec.targets_turn found) (it_stands (l.Sign s.Comma) tt ts p h)

  at_equal : place_of (l.Sign s.Comma) ts ≡ None
      → over d spec.targets_turn found ts ≡ and_then (expect (l.Sign s.Equal) ts) (λ _. list (parts d) >>= λ es. pure (done (measured (st.Assign found.what es.what) (max found.depth es.depth))))
  at_equal h = is_miss (l.Sign s.Comma) _ _ _ ts h
      ∙ on_expected (l.Sign s.Equal) (λ _. list (parts d) >>= λ es. pure (done (measured (st.Assign found.what es.what) (max found.depth es.depth)))) ts

  at_values : (p : Place) (us : List Token) → place_of (l.Sign s.Comma) ts ≡ None → expect (l.Sign s.Equal) ts ≡ Ok (p, us)
      → over d spec.targets_turn found ts ≡ and_then (list (parts d) us) (λ es. pure (done (measured (st.Assign found.what es.what) (max found.depth es.depth))))
  at_values p us h e = at_equal h ∙ ap (λ r. and_then r (λ _. list (parts d) >>= λ es. pure (done (measured (st.Assign found.what es.what) (max found.depth es.depth))))) e

  pub target_again : (p : Place) (us : List Token) (e : Measured Expr) → place_of (l.Sign s.Comma) ts ≡ Some p → over d spec.target (rest ts) ≡ Ok (e, us) → over d spec.assigned found ts ≡ over d spec.assigned (with_one found e) us
  unfolding spec.assigned
  target_again p us e h f = many_steps _ (shrinks d) found ts _ (with_one found) e us (at_comma p h) f

  pub target_smaller : (p : Place) (us : List Token) (e : Measured Expr) → place_of (l.Sign s.Comma) ts ≡ Some p → over d spec.target (rest ts) ≡ Ok (e, us) → length us < length ts
  target_smaller p us e h f = many_smaller _ (shrinks d) found ts _ (with_one found) e us (at_comma p h) f

  pub target_stops : (p : Place) (stop : Stop) → place_of (l.Sign s.Comma) ts ≡ Some p → over d spec.target (rest ts) ≡ Err stop → over d spec.assigned found ts ≡ Err stop
  unfolding spec.assigned
  target_stops p stop h f = many_stops _ (shrinks d) found ts _ _ stop (at_comma p h) f

  pub equal_refused : (stop : Stop) → place_of (l.Sign s.Comma) ts ≡ None → expect (l.Sign s.Equal) ts ≡ Err stop → over d spec.assigned found ts ≡ Err stop
  unfolding spec.assigned
  equal_refused stop h e = many_stops _ (shrinks d) found ts _ _ stop (at_equal h) e

  pub values_read : (p : Place) (us vs : List Token) (es : Measured (List Expr)) → place_of (l.Sign s.Comma) ts ≡ None → expect (l.Sign s.Equal) ts ≡ Ok (p, us) → list (parts d) us ≡ Ok (es, vs)
      → over d spec.assigned found ts ≡ Ok (measured (st.Assign found.what es.what) (max found.depth es.depth), vs)
  unfolding spec.assigned
  values_read p us vs es h e f = many_ends _ (shrinks d) found ts _ (λ es. measured (st.Assign found.what es.what) (max found.depth es.depth)) es vs (at_values p us h e) f

  pub values_stop : (p : Place) (us : List Token) (stop : Stop) → place_of (l.Sign s.Comma) ts ≡ None → expect (l.Sign s.Equal) ts ≡ Ok (p, us) → list (parts d) us ≡ Err stop → over d spec.assigned found ts ≡ Err stop
  unfolding spec.assigned
  values_stop p us stop h e f = many_stops _ (shrinks d) found ts _ _ stop (at_values p us h e) f

pub ruleset targets_rules = (target_again, target_smaller, target_stops, equal_refused, values_read, values_stop)
