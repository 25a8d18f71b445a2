-- What one turn gives in the loop that reads the names of a `for`.
use Rattle.std.proofs.Common.{◌≡◌, ◌∙◌, ap, ℕ, ◌-◌, true, List, [], ◌∷◌, ◌++◌, Some, None, Ok, Err}
use Rattle.lua_tokens.specs.declared.place.Place.{Place}
use Rattle.lua_tokens.specs.declared.token.Token.{Token}
use Rattle.lua_tokens.specs.declared.token.Lexeme.TheVariants as l
use Rattle.lua_tokens.specs.declared.sign.Sign.TheVariants as s
use Rattle.lua_tokens.specs.declared.word.Word.TheVariants as w
use Rattle.lua_grammar.specs.Written.{Bytes}
use Rattle.lua_grammar.specs.Next.{a_name}
use Rattle.lua_grammar.specs.Input.{Stop, bad, and_then, pure, refuse, on, expect, again, done}
use Rattle.lua_grammar.specs.Statements as spec
use Rattle.lua_grammar.specs.Statements.{parts}
use Rattle.lua_grammar.proofs.Loops.{Shrinks}
use Rattle.lua_grammar.proofs.Shorter as shorter
use Rattle.lua_grammar.proofs.Shorter.{parts_shorter}
use Rattle.lua_parser.specs.Looks.{rest, place_of, name_at}
use Rattle.lua_parser.specs.Steps.{over}
use Rattle.lua_parser.proofs.Steps.{is_miss}
use Rattle.lua_parser.proofs.NextFound.{it_stands, name_stands, name_miss, name_deep, on_expected, many_steps, many_smaller, many_stops, many_ends, many_returns}
use Rattle.lua_grammar.proofs.Loops.{many_again, many_fails}
use Rattle.lua_parser.proofs.NextFound.{two_smaller}

shrinks : (d : ℕ) → Shrinks (over d spec.name_turn)
shrinks d = shorter.name_shrinks _ _ _ (parts_shorter d) (parts_shorter (d - 1)) (parts_shorter (d - 2))

module _ (d : ℕ) (found : List (Bytes × Place)) (ts : List Token) where
  at_comma : (p : Place) → place_of (l.Sign s.Comma) ts ≡ Some p → over d spec.name_turn found ts ≡ on a_name true (λ n q. pure (again (found ++ (n, q) ∷ []))) refuse (rest ts)
  unfolding on
  at_comma p h = ap (over d spec.name_turn found) (it_stands (l.Sign s.Comma) tt ts p h)

  at_name : (p q : Place) (n : Bytes) → place_of (l.Sign s.Comma) ts ≡ Some p → name_at (rest ts) ≡ Some (n, q) → over d spec.name_turn found ts ≡ Ok (again (found ++ (n, q) ∷ []), rest (rest ts))
  unfolding on
  at_name p q n h e = at_comma p h ∙ ap (on a_name true (λ n q. pure (again (found ++ (n, q) ∷ []))) refuse) (name_stands (rest ts) n q e)

  at_in : place_of (l.Sign s.Comma) ts ≡ None → over d spec.name_turn found ts ≡ and_then (expect (l.Word w.In) ts) (λ _. pure (done found))
  at_in h = is_miss (l.Sign s.Comma) _ _ _ ts h ∙ on_expected (l.Word w.In) (λ _. pure (done found)) ts

  pub name_again : (p q : Place) (n : Bytes) → place_of (l.Sign s.Comma) ts ≡ Some p → name_at (rest ts) ≡ Some (n, q) → over d spec.for_names found ts ≡ over d spec.for_names (found ++ (n, q) ∷ []) (rest (rest ts))
  unfolding spec.for_names
  name_again p q n h e = many_again _ (shrinks d) found _ ts (rest (rest ts)) (at_name p q n h e)

  pub name_missing : (p : Place) → place_of (l.Sign s.Comma) ts ≡ Some p → name_at (rest ts) ≡ None → over d spec.for_names found ts ≡ Err (bad, rest ts)
  unfolding spec.for_names
  name_missing p h e = many_fails _ (shrinks d) found ts (bad, rest ts) (at_comma p h ∙ name_miss _ _ _ (rest ts) e)

  pub names_end : (p : Place) (us : List Token) → place_of (l.Sign s.Comma) ts ≡ None → expect (l.Word w.In) ts ≡ Ok (p, us) → over d spec.for_names found ts ≡ Ok (found, us)
  unfolding spec.for_names
  names_end p us h e = many_ends _ (shrinks d) found ts _ _ p us (at_in h) e

  pub names_refused : (stop : Stop) → place_of (l.Sign s.Comma) ts ≡ None → expect (l.Word w.In) ts ≡ Err stop → over d spec.for_names found ts ≡ Err stop
  unfolding spec.for_names
  names_refused stop h e = many_stops _ (shrinks d) found ts _ _ stop (at_in h) e

pub ruleset name_rules = (name_again, name_missing, names_end, names_refused, two_smaller)
