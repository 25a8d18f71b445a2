-- The indexes and calls that go on with an expression.
use Rattle.std.proofs.Common.{◌≡◌, refl, sym, ◌∙◌, ap, ℕ, ◌<◌, nat_le, Bool, true, false, List, [], ◌∷◌, length, Option, Some, None, Ok, Err}
use Rattle.lua_tokens.specs.declared.place.Place.{Place}
use Rattle.lua_tokens.specs.declared.token.Token.{Token}
use Rattle.lua_tokens.specs.declared.token.Lexeme.TheVariants as l
use Rattle.lua_tokens.specs.declared.sign.Sign.{Sign}
use Rattle.lua_tokens.specs.declared.sign.Sign.TheVariants as s
use Rattle.lua_tree.specs.declared.expr.Expr.{Expr}
use Rattle.lua_grammar.specs.declared.measured.Measured.{Measured}
use Rattle.lua_grammar.specs.declared.measured.Arguments.{Arguments}
use Rattle.lua_grammar.specs.Written.{Bytes}
use Rattle.lua_grammar.specs.Input.{Outcome, Parser, Stop, bad, deep, and_then, ◌>>=◌, pure, refuse, expect, Turn, again, done}
use Rattle.lua_grammar.specs.Expressions.{dotted, indexed, called, method_called, on_call, suffix_turn, suffixes}
use Rattle.lua_grammar.specs.Statements.{parts}
use Rattle.lua_grammar.proofs.Levels.{parts_depth}
use Rattle.lua_grammar.proofs.Loops.{many_done, many_fails, many_again}
use Rattle.lua_grammar.proofs.Shorter.{parts_shorter, suffix_shrinks}
use Rattle.lua_parser.specs.Looks.{rest, place_of, name_at, text_at, is_suffix, suffix_at}
use Rattle.lua_parser.specs.Steps.{args_step, index_step, call_step, bracketed}
use Rattle.lua_parser.proofs.Less.{turn_less}
use Rattle.lua_parser.proofs.Steps.{is_hit, is_deep, is_miss, name_hit, name_miss}
use Rattle.lua_parser.proofs.SuffixSteps.{by_step, index_by, call_by, index_kept, call_kept}
use Rattle.lua_parser.proofs.ArgTurns.{by_args, args_by, args_none}
use Rattle.lua_parser.proofs.Standing.{place_nil, sign_miss, text_nil, text_miss, suffix_next}

roomy : (d n : ℕ) (c : Bool) → nat_le n d ≡ c → nat_le n (parts d).depth ≡ c
roomy d n c h = ap (nat_le n) (parts_depth d) ∙ h

module _ (d : ℕ) (e : Measured Expr) (ts : List Token) where
  -- ---- indexes

  pub index_dot : (p q : Place) (n : Bytes) → place_of (l.Sign s.Dot) ts ≡ Some p → nat_le e.depth d ≡ true → name_at (rest ts) ≡ Some (n, q)
      → index_step (parts d) e ts ≡ Ok ((dotted e p n q, true), rest (rest ts))
  unfolding index_step
  index_dot p q n h r k = is_hit (l.Sign s.Dot) _ _ _ ts p h (roomy d e.depth true r) ∙ name_hit true _ _ (rest ts) n q k refl

  pub index_dot_bad : (p : Place) → place_of (l.Sign s.Dot) ts ≡ Some p → nat_le e.depth d ≡ true → name_at (rest ts) ≡ None → index_step (parts d) e ts ≡ Err (bad, rest ts)
  unfolding index_step
  index_dot_bad p h r k = is_hit (l.Sign s.Dot) _ _ _ ts p h (roomy d e.depth true r) ∙ name_miss true _ _ (rest ts) k

  pub index_dot_deep : (place_of (l.Sign s.Dot) ts ≡ None → ⊥) → nat_le e.depth d ≡ false → index_step (parts d) e ts ≡ Err (deep, ts)
  unfolding index_step
  index_dot_deep h r = is_deep (l.Sign s.Dot) _ _ _ ts h (roomy d e.depth false r)

  at_bracket : (p : Place) → place_of (l.Sign s.Dot) ts ≡ None → place_of (l.Sign s.OpenBracket) ts ≡ Some p → nat_le e.depth d ≡ true
      → index_step (parts d) e ts ≡ and_then ((parts d).expr 0 (rest ts)) (λ x. expect (l.Sign s.CloseBracket) >>= λ _. pure (indexed e p x, true))
  unfolding index_step
  at_bracket p n h r = is_miss (l.Sign s.Dot) _ _ _ ts n ∙ is_hit (l.Sign s.OpenBracket) _ _ _ ts p h (roomy d e.depth true r)

  abbrev at_key : Place → Measured Expr → Parser (Measured Expr × Bool)
  at_key p x = pure (indexed e p x, true)

  of_bracket : (p : Place) (r : Outcome (Measured Expr)) → and_then r (λ x. expect (l.Sign s.CloseBracket) >>= λ _. at_key p x)
      ≡ and_then (and_then r (λ x. expect (l.Sign s.CloseBracket) >>= λ _. pure x)) (at_key p)
  of_bracket p (Ok x) = by_close (expect (l.Sign s.CloseBracket) x.1)
    where
      by_close : (r : Outcome Place) → and_then r (λ _. at_key p x.0) ≡ and_then (and_then r (λ _. pure x.0)) (at_key p)
      by_close (Ok q) = refl
      by_close (Err stop) = refl
  of_bracket p (Err stop) = refl

  pub index_bracket : (p : Place) (x : Measured Expr) (us : List Token) → place_of (l.Sign s.Dot) ts ≡ None → place_of (l.Sign s.OpenBracket) ts ≡ Some p → nat_le e.depth d ≡ true
      → bracketed (parts d) (rest ts) ≡ Ok (x, us) → index_step (parts d) e ts ≡ Ok ((indexed e p x, true), us)
  unfolding bracketed
  index_bracket p x us n h r k = at_bracket p n h r ∙ of_bracket p ((parts d).expr 0 (rest ts)) ∙ ap (λ o. and_then o (at_key p)) k

  pub index_bracket_stop : (p : Place) (stop : Stop) → place_of (l.Sign s.Dot) ts ≡ None → place_of (l.Sign s.OpenBracket) ts ≡ Some p → nat_le e.depth d ≡ true
      → bracketed (parts d) (rest ts) ≡ Err stop → index_step (parts d) e ts ≡ Err stop
  unfolding bracketed
  index_bracket_stop p stop n h r k = at_bracket p n h r ∙ of_bracket p ((parts d).expr 0 (rest ts)) ∙ ap (λ o. and_then o (at_key p)) k

  pub index_bracket_deep : place_of (l.Sign s.Dot) ts ≡ None → (place_of (l.Sign s.OpenBracket) ts ≡ None → ⊥) → nat_le e.depth d ≡ false → index_step (parts d) e ts ≡ Err (deep, ts)
  unfolding index_step
  index_bracket_deep n h r = is_miss (l.Sign s.Dot) _ _ _ ts n ∙ is_deep (l.Sign s.OpenBracket) _ _ _ ts h (roomy d e.depth false r)

  pub index_none : place_of (l.Sign s.Dot) ts ≡ None → place_of (l.Sign s.OpenBracket) ts ≡ None → index_step (parts d) e ts ≡ Ok ((e, false), ts)
  unfolding index_step
  index_none n m = is_miss (l.Sign s.Dot) _ _ _ ts n ∙ is_miss (l.Sign s.OpenBracket) _ _ _ ts m

  -- ---- calls

  abbrev method_end : Bytes → Option Arguments → Parser (Measured Expr × Bool)
  method_end n o = by_args (λ a. pure (method_called e n a, true)) refuse o

  abbrev call_end : Option Arguments → Parser (Measured Expr × Bool)
  call_end o = by_args (λ a. pure (called e a, true)) (pure (e, false)) o

  at_method : (p q : Place) (n : Bytes) → place_of (l.Sign s.Colon) ts ≡ Some p → nat_le e.depth d ≡ true → name_at (rest ts) ≡ Some (n, q)
      → call_step (parts d) e ts ≡ and_then (args_step (parts d) true (rest (rest ts))) (method_end n)
  unfolding call_step
  at_method p q n h r k = is_hit (l.Sign s.Colon) _ _ _ ts p h (roomy d e.depth true r) ∙ name_hit true _ _ (rest ts) n q k refl
      ∙ (args_by (parts d) true (λ a. pure (method_called e n a, true)) refuse).by (rest (rest ts))

  pub call_method : (p q : Place) (n : Bytes) (a : Arguments) (us : List Token) → place_of (l.Sign s.Colon) ts ≡ Some p → nat_le e.depth d ≡ true → name_at (rest ts) ≡ Some (n, q)
      → args_step (parts d) true (rest (rest ts)) ≡ Ok (Some a, us) → call_step (parts d) e ts ≡ Ok ((method_called e n a, true), us)
  call_method p q n a us h r k c = at_method p q n h r k ∙ ap (λ o. and_then o (method_end n)) c

  pub call_method_bad : (p q : Place) (n : Bytes) (us : List Token) → place_of (l.Sign s.Colon) ts ≡ Some p → nat_le e.depth d ≡ true → name_at (rest ts) ≡ Some (n, q)
      → args_step (parts d) true (rest (rest ts)) ≡ Ok (None, us) → call_step (parts d) e ts ≡ Err (bad, us)
  call_method_bad p q n us h r k c = at_method p q n h r k ∙ ap (λ o. and_then o (method_end n)) c

  pub call_method_stop : (p q : Place) (n : Bytes) (stop : Stop) → place_of (l.Sign s.Colon) ts ≡ Some p → nat_le e.depth d ≡ true → name_at (rest ts) ≡ Some (n, q)
      → args_step (parts d) true (rest (rest ts)) ≡ Err stop → call_step (parts d) e ts ≡ Err stop
  call_method_stop p q n stop h r k c = at_method p q n h r k ∙ ap (λ o. and_then o (method_end n)) c

  pub call_colon_bad : (p : Place) → place_of (l.Sign s.Colon) ts ≡ Some p → nat_le e.depth d ≡ true → name_at (rest ts) ≡ None → call_step (parts d) e ts ≡ Err (bad, rest ts)
  unfolding call_step
  call_colon_bad p h r k = is_hit (l.Sign s.Colon) _ _ _ ts p h (roomy d e.depth true r) ∙ name_miss true _ _ (rest ts) k

  pub call_colon_deep : (place_of (l.Sign s.Colon) ts ≡ None → ⊥) → nat_le e.depth d ≡ false → call_step (parts d) e ts ≡ Err (deep, ts)
  unfolding call_step
  call_colon_deep h r = is_deep (l.Sign s.Colon) _ _ _ ts h (roomy d e.depth false r)

  at_args : place_of (l.Sign s.Colon) ts ≡ None → call_step (parts d) e ts ≡ and_then (args_step (parts d) (nat_le e.depth d) ts) call_end
  unfolding call_step
  at_args n = is_miss (l.Sign s.Colon) _ _ _ ts n ∙ (args_by (parts d) (nat_le e.depth (parts d).depth) (λ a. pure (called e a, true)) (pure (e, false))).by ts
      ∙ ap (λ k. and_then (args_step (parts d) (nat_le e.depth k) ts) call_end) (parts_depth d)

  pub call_args : (a : Arguments) (us : List Token) → place_of (l.Sign s.Colon) ts ≡ None → args_step (parts d) (nat_le e.depth d) ts ≡ Ok (Some a, us)
      → call_step (parts d) e ts ≡ Ok ((called e a, true), us)
  call_args a us n c = at_args n ∙ ap (λ o. and_then o call_end) c

  pub call_none : (us : List Token) → place_of (l.Sign s.Colon) ts ≡ None → args_step (parts d) (nat_le e.depth d) ts ≡ Ok (None, us) → call_step (parts d) e ts ≡ Ok ((e, false), us)
  call_none us n c = at_args n ∙ ap (λ o. and_then o call_end) c

  pub call_stop : (stop : Stop) → place_of (l.Sign s.Colon) ts ≡ None → args_step (parts d) (nat_le e.depth d) ts ≡ Err stop → call_step (parts d) e ts ≡ Err stop
  call_stop stop n c = at_args n ∙ ap (λ o. and_then o call_end) c

pub ruleset index_rules = (index_dot, index_dot_bad, index_dot_deep, index_bracket, index_bracket_stop, index_bracket_deep, index_none)

pub ruleset call_rules = (call_method, call_method_bad, call_method_stop, call_colon_bad, call_colon_deep, call_args, call_none, call_stop)

-- ---- where none begins

no_sign : (s : Sign) → is_suffix (l.Sign s) ≡ true → (ts : List Token) → suffix_at ts ≡ false → place_of (l.Sign s) ts ≡ None
no_sign s i [] n = place_nil (l.Sign s)
no_sign s i (x ∷ ts) n = sign_miss s x ts (λ e. let h : suffix_at (x ∷ ts) ≡ is_suffix (l.Sign s) = suffix_next x ts (l.Sign s) e in cc)

no_text : (ts : List Token) → suffix_at ts ≡ false → text_at ts ≡ None
no_text [] n = text_nil
no_text (x ∷ ts) n = text_miss x ts (λ t e. let h : suffix_at (x ∷ ts) ≡ true = suffix_next x ts (l.Text t) e in cc)

module _ (d : ℕ) (e : Measured Expr) (ts : List Token) (n : suffix_at ts ≡ false) where
  pub none_indexed : index_step (parts d) e ts ≡ Ok ((e, false), ts)
  none_indexed = index_none d e ts (no_sign s.Dot refl ts n) (no_sign s.OpenBracket refl ts n)

  pub none_called : call_step (parts d) e ts ≡ Ok ((e, false), ts)
  none_called = call_none d e ts ts (no_sign s.Colon refl ts n)
      (args_none d (nat_le e.depth d) ts (no_sign s.OpenParen refl ts n) (no_sign s.OpenBrace refl ts n) (no_text ts n))

-- ---- the turns

module _ (d : ℕ) (e : Measured Expr) (ts : List Token) where
  abbrev after_index : Measured Expr × Bool → Parser (Turn (Measured Expr) (Measured Expr))
  after_index x = by_step again (on_call (parts d) e again (pure (done e))) x

  turn_index : (x : Measured Expr) (us : List Token) → index_step (parts d) e ts ≡ Ok ((x, true), us) → suffix_turn (parts d) e ts ≡ Ok (again x, us)
  turn_index x us h = (index_by (parts d) e again (on_call (parts d) e again (pure (done e)))).by ts ∙ ap (λ r. and_then r after_index) h

  turn_call : (x : Measured Expr) (us : List Token) → index_step (parts d) e ts ≡ Ok ((x, false), us) → suffix_turn (parts d) e ts ≡ and_then (call_step (parts d) x us) (by_step again (pure (done x)))
  turn_call x us h = (index_by (parts d) e again (on_call (parts d) e again (pure (done e)))).by ts ∙ ap (λ r. and_then r after_index) h ∙ (call_by (parts d) e again (pure (done e))).by us
      ∙ ap (λ z. and_then (call_step (parts d) z us) (by_step again (pure (done z)))) (sym (index_kept (parts d) e ts us x h))

  pub suffix_index : (x : Measured Expr) (us : List Token) → index_step (parts d) e ts ≡ Ok ((x, true), us) → suffixes (parts d) e ts ≡ suffixes (parts d) x us
  unfolding suffixes
  suffix_index x us h = many_again (suffix_turn (parts d)) (suffix_shrinks (parts d) (parts_shorter d)) e x ts us (turn_index x us h)

  pub suffix_index_stop : (stop : Stop) → index_step (parts d) e ts ≡ Err stop → suffixes (parts d) e ts ≡ Err stop
  unfolding suffixes
  suffix_index_stop stop h = many_fails (suffix_turn (parts d)) (suffix_shrinks (parts d) (parts_shorter d)) e ts stop ((index_by (parts d) e again (on_call (parts d) e again (pure (done e)))).by ts ∙ ap (λ r. and_then r after_index) h)

  pub suffix_index_less : (x : Measured Expr) (us : List Token) → index_step (parts d) e ts ≡ Ok ((x, true), us) → length us < length ts
  suffix_index_less x us h = turn_less (suffix_turn (parts d)) (suffix_shrinks (parts d) (parts_shorter d)) e x ts us (turn_index x us h)

  pub suffix_call : (x y : Measured Expr) (us vs : List Token) → index_step (parts d) e ts ≡ Ok ((x, false), us) → call_step (parts d) x us ≡ Ok ((y, true), vs) → suffixes (parts d) e ts ≡ suffixes (parts d) y vs
  unfolding suffixes
  suffix_call x y us vs h k = many_again (suffix_turn (parts d)) (suffix_shrinks (parts d) (parts_shorter d)) e y ts vs (turn_call x us h ∙ ap (λ r. and_then r (by_step again (pure (done x)))) k)

  pub suffix_call_stop : (x : Measured Expr) (us : List Token) (stop : Stop) → index_step (parts d) e ts ≡ Ok ((x, false), us) → call_step (parts d) x us ≡ Err stop → suffixes (parts d) e ts ≡ Err stop
  unfolding suffixes
  suffix_call_stop x us stop h k = many_fails (suffix_turn (parts d)) (suffix_shrinks (parts d) (parts_shorter d)) e ts stop (turn_call x us h ∙ ap (λ r. and_then r (by_step again (pure (done x)))) k)

  pub suffix_call_less : (x y : Measured Expr) (us vs : List Token) → index_step (parts d) e ts ≡ Ok ((x, false), us) → call_step (parts d) x us ≡ Ok ((y, true), vs) → length vs < length ts
  suffix_call_less x y us vs h k = turn_less (suffix_turn (parts d)) (suffix_shrinks (parts d) (parts_shorter d)) e y ts vs (turn_call x us h ∙ ap (λ r. and_then r (by_step again (pure (done x)))) k)

  pub suffix_end : (x y : Measured Expr) (us vs : List Token) → index_step (parts d) e ts ≡ Ok ((x, false), us) → call_step (parts d) x us ≡ Ok ((y, false), vs) → suffixes (parts d) e ts ≡ Ok (y, vs)
  unfolding suffixes
  suffix_end x y us vs h k = many_done (suffix_turn (parts d)) (suffix_shrinks (parts d) (parts_shorter d)) e ts vs y
      (turn_call x us h ∙ ap (λ r. and_then r (by_step again (pure (done x)))) k ∙ ap (λ z. Ok (done z, vs)) (sym (call_kept (parts d) x us vs y k)))

  pub suffix_none : suffix_at ts ≡ false → suffixes (parts d) e ts ≡ Ok (e, ts)
  suffix_none n = suffix_end e e ts ts (none_indexed d e ts n) (none_called d e ts n)

pub ruleset suffix_rules = (suffix_index, suffix_index_stop, suffix_index_less, suffix_call, suffix_call_stop, suffix_call_less, suffix_end, suffix_none)
