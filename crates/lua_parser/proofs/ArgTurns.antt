-- The arguments of a call.
use Rattle.std.proofs.Common.{◌≡◌, refl, ◌∙◌, ap, ℕ, Bool, true, false, List, Option, Some, None, Ok, Err}
use Rattle.lua_tokens.specs.declared.place.Place.{Place}
use Rattle.lua_tokens.specs.declared.token.Token.{Token}
use Rattle.lua_tokens.specs.declared.token.Lexeme.TheVariants as l
use Rattle.lua_tokens.specs.declared.sign.Sign.TheVariants as s
use Rattle.lua_tree.specs.declared.expr.Expr.{Expr}
use Rattle.lua_grammar.specs.declared.measured.Measured.{Measured}
use Rattle.lua_grammar.specs.declared.measured.Arguments.{Arguments}
use Rattle.lua_grammar.specs.Written.{Bytes}
use Rattle.lua_grammar.specs.Erasure.{text_node}
use Rattle.lua_grammar.specs.Input.{Parser, Stop, deep, and_then, ◌>>=◌, pure, expect}
use Rattle.lua_grammar.specs.Expressions.{Parts, measured, nothing, only, arguments, list, in_parens, on_args}
use Rattle.lua_grammar.specs.Statements.{parts}
use Rattle.lua_parser.specs.Looks.{rest, place_of, text_at}
use Rattle.lua_parser.specs.Steps.{args_step}
use Rattle.lua_parser.proofs.SuffixSteps.{GoesOn, on_then, bind_then}
use Rattle.lua_parser.proofs.Steps.{is_hit, is_deep, is_miss, text_hit, text_deep, text_miss}

module _ (d : ℕ) (p : Place) (ts : List Token) where
  pub parens_empty : (q : Place) → place_of (l.Sign s.CloseParen) ts ≡ Some q → in_parens (parts d) p ts ≡ Ok (arguments nothing p, rest ts)
  unfolding in_parens
  parens_empty q h = is_hit (l.Sign s.CloseParen) true _ _ ts q h refl

  pub parens_list : place_of (l.Sign s.CloseParen) ts ≡ None
      → in_parens (parts d) p ts ≡ and_then (list (parts d) ts) (λ es. expect (l.Sign s.CloseParen) >>= λ _. pure (arguments es p))
  unfolding in_parens
  parens_list h = is_miss (l.Sign s.CloseParen) true _ _ ts h

pub ruleset parens_rules = (parens_empty, parens_list)

module _ (d : ℕ) (room : Bool) (ts : List Token) where
  pub args_paren : (p : Place) (us : List Token) (a : Arguments) → place_of (l.Sign s.OpenParen) ts ≡ Some p → room ≡ true → in_parens (parts d) p (rest ts) ≡ Ok (a, us)
      → args_step (parts d) room ts ≡ Ok (Some a, us)
  unfolding args_step
  args_paren p us a h r e = is_hit (l.Sign s.OpenParen) room _ _ ts p h r ∙ ap (λ o. and_then o (λ a. pure (Some a))) e

  pub args_paren_stop : (p : Place) (stop : Stop) → place_of (l.Sign s.OpenParen) ts ≡ Some p → room ≡ true → in_parens (parts d) p (rest ts) ≡ Err stop → args_step (parts d) room ts ≡ Err stop
  unfolding args_step
  args_paren_stop p stop h r e = is_hit (l.Sign s.OpenParen) room _ _ ts p h r ∙ ap (λ o. and_then o (λ a. pure (Some a))) e

  pub args_paren_deep : (place_of (l.Sign s.OpenParen) ts ≡ None → ⊥) → room ≡ false → args_step (parts d) room ts ≡ Err (deep, ts)
  unfolding args_step
  args_paren_deep h r = is_deep (l.Sign s.OpenParen) room _ _ ts h r

  pub args_brace : (p : Place) (us : List Token) (e : Measured Expr) → place_of (l.Sign s.OpenParen) ts ≡ None → place_of (l.Sign s.OpenBrace) ts ≡ Some p → room ≡ true
      → (parts d).table p (rest ts) ≡ Ok (e, us) → args_step (parts d) room ts ≡ Ok (Some (arguments (only e) p), us)
  unfolding args_step
  args_brace p us e n h r k = is_miss (l.Sign s.OpenParen) room _ _ ts n ∙ is_hit (l.Sign s.OpenBrace) room _ _ ts p h r ∙ ap (λ o. and_then o (λ e. pure (Some (arguments (only e) p)))) k

  pub args_brace_stop : (p : Place) (stop : Stop) → place_of (l.Sign s.OpenParen) ts ≡ None → place_of (l.Sign s.OpenBrace) ts ≡ Some p → room ≡ true
      → (parts d).table p (rest ts) ≡ Err stop → args_step (parts d) room ts ≡ Err stop
  unfolding args_step
  args_brace_stop p stop n h r k = is_miss (l.Sign s.OpenParen) room _ _ ts n ∙ is_hit (l.Sign s.OpenBrace) room _ _ ts p h r ∙ ap (λ o. and_then o (λ e. pure (Some (arguments (only e) p)))) k

  pub args_brace_deep : place_of (l.Sign s.OpenParen) ts ≡ None → (place_of (l.Sign s.OpenBrace) ts ≡ None → ⊥) → room ≡ false → args_step (parts d) room ts ≡ Err (deep, ts)
  unfolding args_step
  args_brace_deep n h r = is_miss (l.Sign s.OpenParen) room _ _ ts n ∙ is_deep (l.Sign s.OpenBrace) room _ _ ts h r

  pub args_text : (t : Bytes) (p : Place) → place_of (l.Sign s.OpenParen) ts ≡ None → place_of (l.Sign s.OpenBrace) ts ≡ None → text_at ts ≡ Some (t, p) → room ≡ true
      → args_step (parts d) room ts ≡ Ok (Some (arguments (only (measured (text_node t p) 1)) p), rest ts)
  unfolding args_step
  args_text t p n m h r = is_miss (l.Sign s.OpenParen) room _ _ ts n ∙ is_miss (l.Sign s.OpenBrace) room _ _ ts m ∙ text_hit room _ _ ts t p h r

  pub args_text_deep : place_of (l.Sign s.OpenParen) ts ≡ None → place_of (l.Sign s.OpenBrace) ts ≡ None → (text_at ts ≡ None → ⊥) → room ≡ false → args_step (parts d) room ts ≡ Err (deep, ts)
  unfolding args_step
  args_text_deep n m h r = is_miss (l.Sign s.OpenParen) room _ _ ts n ∙ is_miss (l.Sign s.OpenBrace) room _ _ ts m ∙ text_deep room _ _ ts h r

  pub args_none : place_of (l.Sign s.OpenParen) ts ≡ None → place_of (l.Sign s.OpenBrace) ts ≡ None → text_at ts ≡ None → args_step (parts d) room ts ≡ Ok (None, ts)
  unfolding args_step
  args_none n m h = is_miss (l.Sign s.OpenParen) room _ _ ts n ∙ is_miss (l.Sign s.OpenBrace) room _ _ ts m ∙ text_miss room _ _ ts h

pub ruleset args_rules = (args_paren, args_paren_stop, args_paren_deep, args_brace, args_brace_stop, args_brace_deep, args_text, args_text_deep, args_none)

-- ---- any reader that goes by arguments

abbrev pub by_args : {A : Type 0} → (Arguments → Parser A) → Parser A → Option Arguments → Parser A
by_args g q None = q
by_args g q (Some a) = g a

module _ {A : Type 0} (P : Parts) (room : Bool) (g : Arguments → Parser A) (q : Parser A) where
  found : (a : Arguments) → GoesOn (by_args g q) (g a) (pure (Some a))
  found a = record { by = λ ts. refl }

  other : GoesOn (by_args g q) q (pure None)
  other = record { by = λ ts. refl }

  pub args_by : GoesOn (by_args g q) (on_args P room g q) (args_step P room)
  unfolding args_step
  args_by = on_then (by_args g q) _ _ _ _ _ _ (λ _ p. bind_then (by_args g q) (in_parens P p) _ _ found)
      (on_then (by_args g q) _ _ _ _ _ _ (λ _ p. bind_then (by_args g q) (P.table p) _ _ (λ e. found (arguments (only e) p))) (on_then (by_args g q) _ _ _ _ _ _ (λ t p. found _) other))
