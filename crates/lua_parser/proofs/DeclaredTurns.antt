-- What one turn gives in the loop that reads the names that a `local` declares.
use Rattle.std.proofs.Common.{◌≡◌, ◌∙◌, ap, ℕ, ◌-◌, ◌<◌, Bool, true, List, [], ◌∷◌, ◌++◌, length, Some, None, Ok, Err}
use Rattle.lua_tokens.specs.declared.place.Place.{Place}
use Rattle.lua_tokens.specs.declared.token.Token.{Token}
use Rattle.lua_tokens.specs.declared.token.Lexeme.TheVariants as l
use Rattle.lua_tokens.specs.declared.sign.Sign.TheVariants as s
use Rattle.lua_grammar.specs.Written.{Bytes}
use Rattle.lua_grammar.specs.Next.{a_name}
use Rattle.lua_grammar.specs.Input.{Stop, bad, and_then, ◌>>=◌, pure, refuse, on, again}
use Rattle.lua_grammar.specs.Statements as spec
use Rattle.lua_grammar.specs.Statements.{parts}
use Rattle.lua_grammar.proofs.Loops.{Shrinks}
use Rattle.lua_grammar.proofs.Shorter as shorter
use Rattle.lua_grammar.proofs.Shorter.{parts_shorter}
use Rattle.lua_parser.specs.Looks.{rest, place_of, name_at}
use Rattle.lua_parser.specs.Steps.{over}
use Rattle.lua_parser.proofs.Steps.{is_miss}
use Rattle.lua_parser.proofs.NextFound.{it_stands, name_stands, name_miss, many_steps, many_smaller, many_stops}
use Rattle.lua_grammar.proofs.Loops.{many_done, many_fails}

shrinks : (d : ℕ) → Shrinks (over d spec.declared_turn)
shrinks d = shorter.declared_shrinks _ _ _ (parts_shorter d) (parts_shorter (d - 1)) (parts_shorter (d - 2))

module _ (d : ℕ) (found : List (Bytes × Bool × Place)) (ts : List Token) where
  at_comma : (p : Place) → place_of (l.Sign s.Comma) ts ≡ Some p
      → over d spec.declared_turn found ts ≡ on a_name true (λ n q. over d spec.attrib >>= λ a. pure (again (found ++ (n, a, q) ∷ []))) refuse (rest ts)
  unfolding on
  at_comma p h = ap (over d spec.declared_turn found) (it_stands (l.Sign s.Comma) tt ts p h)

  at_name : (p q : Place) (n : Bytes) → place_of (l.Sign s.Comma) ts ≡ Some p → name_at (rest ts) ≡ Some (n, q)
      → over d spec.declared_turn found ts ≡ and_then (over d spec.attrib (rest (rest ts))) (λ a. pure (again (found ++ (n, a, q) ∷ [])))
  unfolding on
  at_name p q n h e = at_comma p h ∙ ap (on a_name true (λ n q. over d spec.attrib >>= λ a. pure (again (found ++ (n, a, q) ∷ []))) refuse) (name_stands (rest ts) n q e)

  pub declared_again : (p q : Place) (n : Bytes) (a : Bool) (us : List Token) → place_of (l.Sign s.Comma) ts ≡ Some p → name_at (rest ts) ≡ Some (n, q) → over d spec.attrib (rest (rest ts)) ≡ Ok (a, us)
      → over d spec.more_declared found ts ≡ over d spec.more_declared (found ++ (n, a, q) ∷ []) us
  unfolding spec.more_declared
  declared_again p q n a us h e f = many_steps _ (shrinks d) found ts _ (λ a. found ++ (n, a, q) ∷ []) a us (at_name p q n h e) f

  pub declared_smaller : (p q : Place) (n : Bytes) (a : Bool) (us : List Token) → place_of (l.Sign s.Comma) ts ≡ Some p → name_at (rest ts) ≡ Some (n, q) → over d spec.attrib (rest (rest ts)) ≡ Ok (a, us)
      → length us < length ts
  declared_smaller p q n a us h e f = many_smaller _ (shrinks d) found ts _ (λ a. found ++ (n, a, q) ∷ []) a us (at_name p q n h e) f

  pub declared_stops : (p q : Place) (n : Bytes) (stop : Stop) → place_of (l.Sign s.Comma) ts ≡ Some p → name_at (rest ts) ≡ Some (n, q) → over d spec.attrib (rest (rest ts)) ≡ Err stop
      → over d spec.more_declared found ts ≡ Err stop
  unfolding spec.more_declared
  declared_stops p q n stop h e f = many_stops _ (shrinks d) found ts _ _ stop (at_name p q n h e) f

  pub declared_missing : (p : Place) → place_of (l.Sign s.Comma) ts ≡ Some p → name_at (rest ts) ≡ None → over d spec.more_declared found ts ≡ Err (bad, rest ts)
  unfolding spec.more_declared
  declared_missing p h e = many_fails _ (shrinks d) found ts (bad, rest ts) (at_comma p h ∙ name_miss _ _ _ (rest ts) e)

  pub declared_end : place_of (l.Sign s.Comma) ts ≡ None → over d spec.more_declared found ts ≡ Ok (found, ts)
  unfolding spec.more_declared
  declared_end h = many_done _ (shrinks d) found ts ts found (is_miss (l.Sign s.Comma) _ _ _ ts h)

pub ruleset declared_rules = (declared_again, declared_smaller, declared_stops, declared_missing, declared_end)
