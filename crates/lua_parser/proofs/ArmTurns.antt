-- What one turn gives in the loop that reads the further branches of an `if`.
use Rattle.std.proofs.Common.{◌≡◌, ◌∙◌, ap, ℕ, ◌-◌, ◌<◌, List, length, Some, None, Ok, Err}
use Rattle.lua_tokens.specs.declared.place.Place.{Place}
use Rattle.lua_tokens.specs.declared.token.Token.{Token}
use Rattle.lua_tokens.specs.declared.token.Lexeme.TheVariants as l
use Rattle.lua_tokens.specs.declared.word.Word.TheVariants as w
use Rattle.lua_tree.specs.declared.stat.Branch.{Branch}
use Rattle.lua_tree.specs.declared.stat.Stat.TheVariants as st
use Rattle.lua_grammar.specs.declared.measured.Measured.{Measured}
use Rattle.lua_grammar.specs.Input.{Stop, and_then, pure, on, expect, again, done}
use Rattle.lua_grammar.specs.Expressions.{measured, with_one}
use Rattle.lua_grammar.specs.Statements as spec
use Rattle.lua_grammar.specs.Statements.{parts}
use Rattle.lua_grammar.proofs.Loops.{Shrinks}
use Rattle.lua_grammar.proofs.Shorter as shorter
use Rattle.lua_grammar.proofs.Shorter.{parts_shorter}
use Rattle.lua_parser.specs.Looks.{rest, place_of}
use Rattle.lua_parser.specs.Steps.{over}
use Rattle.lua_parser.proofs.Steps.{is_miss}
use Rattle.lua_parser.proofs.NextFound.{it_stands, on_expected, many_steps, many_smaller, many_stops, many_ends, many_returns}

shrinks : (d : ℕ) → Shrinks (over d spec.arm_turn)
shrinks d = shorter.arm_shrinks _ _ _ (parts_shorter d) (parts_shorter (d - 1)) (parts_shorter (d - 2))

module _ (d : ℕ) (found : Measured (List Branch)) (ts : List Token) where
  at_elseif : (p : Place) → place_of (l.Word w.Elseif) ts ≡ Some p → over d spec.arm_turn found ts ≡ and_then (over d spec.condition (rest ts)) (λ x. pure (again (with_one found x)))
  unfolding on
  at_elseif p h = ap (over d spec.arm_turn found) (it_stands (l.Word w.Elseif) tt ts p h)

  at_else : (p : Place) → place_of (l.Word w.Else) ts ≡ Some p → over d spec.arm_turn found ts ≡ and_then (over d spec.after_else found (rest ts)) (λ x. pure (done x))
  unfolding on
  at_else p h = ap (over d spec.arm_turn found) (it_stands (l.Word w.Else) tt ts p h)

  at_end : place_of (l.Word w.Elseif) ts ≡ None → place_of (l.Word w.Else) ts ≡ None
      → over d spec.arm_turn found ts ≡ and_then (expect (l.Word w.End) ts) (λ _. pure (done (measured (st.If found.what None) found.depth)))
  at_end a b = is_miss (l.Word w.Elseif) _ _ _ ts a ∙ is_miss (l.Word w.Else) _ _ _ ts b ∙ on_expected (l.Word w.End) (λ _. pure (done (measured (st.If found.what None) found.depth))) ts

  pub arm_again : (p : Place) (us : List Token) (x : Measured Branch) → place_of (l.Word w.Elseif) ts ≡ Some p → over d spec.condition (rest ts) ≡ Ok (x, us)
      → over d spec.more_arms found ts ≡ over d spec.more_arms (with_one found x) us
  unfolding spec.more_arms
  arm_again p us x h e = many_steps _ (shrinks d) found ts _ (with_one found) x us (at_elseif p h) e

  pub arm_smaller : (p : Place) (us : List Token) (x : Measured Branch) → place_of (l.Word w.Elseif) ts ≡ Some p → over d spec.condition (rest ts) ≡ Ok (x, us) → length us < length ts
  arm_smaller p us x h e = many_smaller _ (shrinks d) found ts _ (with_one found) x us (at_elseif p h) e

  pub arm_stops : (p : Place) (stop : Stop) → place_of (l.Word w.Elseif) ts ≡ Some p → over d spec.condition (rest ts) ≡ Err stop → over d spec.more_arms found ts ≡ Err stop
  unfolding spec.more_arms
  arm_stops p stop h e = many_stops _ (shrinks d) found ts _ _ stop (at_elseif p h) e

  pub arm_else : (p : Place) → place_of (l.Word w.Else) ts ≡ Some p → over d spec.more_arms found ts ≡ over d spec.after_else found (rest ts)
  unfolding spec.more_arms
  arm_else p h = many_returns _ (shrinks d) found ts _ (at_else p h)

  pub arm_end : (p : Place) (us : List Token) → place_of (l.Word w.Elseif) ts ≡ None → place_of (l.Word w.Else) ts ≡ None → expect (l.Word w.End) ts ≡ Ok (p, us)
      → over d spec.more_arms found ts ≡ Ok (measured (st.If found.what None) found.depth, us)
  unfolding spec.more_arms
  arm_end p us a b e = many_ends _ (shrinks d) found ts _ _ p us (at_end a b) e

  pub arm_refused : (stop : Stop) → place_of (l.Word w.Elseif) ts ≡ None → place_of (l.Word w.Else) ts ≡ None → expect (l.Word w.End) ts ≡ Err stop → over d spec.more_arms found ts ≡ Err stop
  unfolding spec.more_arms
  arm_refused stop a b e = many_stops _ (shrinks d) found ts _ _ stop (at_end a b) e

pub ruleset arm_rules = (arm_again, arm_smaller, arm_stops, arm_else, arm_end, arm_refused)
