-- What `goto` and labels give, by the next tokens.
use Rattle.std.proofs.Common.{◌≡◌, refl, ◌∙◌, ap, true, List, None, Some, Ok, Err}
use Rattle.lua_tokens.specs.declared.place.Place.{Place}
use Rattle.lua_tokens.specs.declared.token.Token.{Token}
use Rattle.lua_tokens.specs.declared.token.Lexeme.TheVariants as l
use Rattle.lua_tokens.specs.declared.sign.Sign.TheVariants as s
use Rattle.lua_tree.specs.declared.stat.Stat.TheVariants as st
use Rattle.lua_grammar.specs.Written.{Bytes}
use Rattle.lua_grammar.specs.Input.{Stop, bad, and_then, pure, expect}
use Rattle.lua_grammar.specs.Expressions.{measured}
use Rattle.lua_grammar.specs.Statements.{after_goto, after_colons}
use Rattle.lua_parser.specs.Looks.{rest, name_at}
use Rattle.lua_parser.proofs.Steps.{name_hit, name_miss}

module _ (ts : List Token) where
  pub goto_read : (n : Bytes) (p : Place) → name_at ts ≡ Some (n, p) → after_goto ts ≡ Ok (measured (st.Goto n p) 0, rest ts)
  unfolding after_goto
  goto_read n p e = name_hit true _ _ ts n p e refl

  pub goto_bad : name_at ts ≡ None → after_goto ts ≡ Err (bad, ts)
  unfolding after_goto
  goto_bad e = name_miss true _ _ ts e

  named : (n : Bytes) (p : Place) → name_at ts ≡ Some (n, p) → after_colons ts ≡ and_then (expect (l.Sign s.ColonColon) (rest ts)) (λ _. pure (measured (st.Label n p) 0))
  unfolding after_colons
  named n p e = name_hit true _ _ ts n p e refl

  pub label_read : (n : Bytes) (p q : Place) (us : List Token) → name_at ts ≡ Some (n, p) → expect (l.Sign s.ColonColon) (rest ts) ≡ Ok (q, us) → after_colons ts ≡ Ok (measured (st.Label n p) 0, us)
  label_read n p q us e h = named n p e ∙ ap (λ r. and_then r (λ _. pure (measured (st.Label n p) 0))) h

  pub label_stops : (n : Bytes) (p : Place) (stop : Stop) → name_at ts ≡ Some (n, p) → expect (l.Sign s.ColonColon) (rest ts) ≡ Err stop → after_colons ts ≡ Err stop
  label_stops n p stop e h = named n p e ∙ ap (λ r. and_then r (λ _. pure (measured (st.Label n p) 0))) h

  pub label_bad : name_at ts ≡ None → after_colons ts ≡ Err (bad, ts)
  unfolding after_colons
  label_bad e = name_miss true _ _ ts e

pub ruleset goto_rules = (goto_read, goto_bad)

pub ruleset label_rules = (label_read, label_stops, label_bad)
