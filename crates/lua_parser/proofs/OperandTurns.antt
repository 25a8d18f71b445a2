-- An expression without a binary operator.
use Rattle.std.proofs.Common.{◌≡◌, refl, ◌∙◌, ap, ℕ, nat_le, if◌then◌else◌, Bool, true, false, List, [], ◌∷◌, Option, Some, None, Ok, Err}
use Rattle.lua_tokens.specs.declared.place.Place.{Place}
use Rattle.lua_tokens.specs.declared.token.Token.{Token}
use Rattle.lua_tokens.specs.declared.token.Lexeme.{Lexeme}
use Rattle.lua_tokens.specs.declared.token.Lexeme.TheVariants as l
use Rattle.lua_tokens.specs.declared.sign.Sign.TheVariants as s
use Rattle.lua_tokens.specs.declared.word.Word.TheVariants as w
use Rattle.lua_tree.specs.declared.expr.Expr.{Expr}
use Rattle.lua_tree.specs.declared.expr.ExprKind.{ExprKind}
use Rattle.lua_tree.specs.declared.operator.Unary.{Unary}
use Rattle.lua_tree.specs.declared.stat.Body.{Body}
use Rattle.lua_grammar.specs.declared.measured.Measured.{Measured}
use Rattle.lua_grammar.specs.Written.{Bytes, Atom}
use Rattle.lua_grammar.specs.Erasure.{node}
use Rattle.lua_grammar.specs.Next.{an_atom, a_unary}
use Rattle.lua_grammar.specs.Input.{Outcome, Parser, Stop, bad, deep, and_then, ◌>>=◌, pure, refuse, at, on}
use Rattle.lua_grammar.specs.Expressions.{measured, leaf, name_leaf, function_node, unary_node, suffixes, table, function_body, group, operand, climb, from_level}
use Rattle.lua_grammar.specs.Statements.{parts, no_parts}
use Rattle.lua_grammar.proofs.Levels.{parts_depth, expr_flat}
use Rattle.lua_parser.specs.Looks.{rest, place_of, beside, name_at, kind_in, kind_at, unary_at, begins, begins_at, suffix_at}
use Rattle.lua_parser.proofs.SuffixTurns.{suffix_none}
use Rattle.lua_parser.proofs.Steps.{is_hit, is_deep, is_miss, look_hit, look_deep, look_miss, name_hit, name_miss}

roomy : (d : ℕ) (c : Bool) → nat_le 1 d ≡ c → nat_le 1 (parts d).depth ≡ c
roomy d c h = ap (nat_le 1) (parts_depth d) ∙ h

-- ---- atoms

atom_hit : (q : Parser (Measured Expr)) (ts : List Token) (k : ExprKind) (p : Place) → kind_at ts ≡ Some (k, p) → on an_atom true (λ a p. pure (leaf a p)) q ts ≡ Ok (measured (node k p) 1, rest ts)
unfolding on kind_at rest
atom_hit q [] k p e = cc
atom_hit q (x ∷ ts) k p e = by_atom (an_atom x.what) e
  where
    or : ExprKind × Place → Option (ExprKind × Place) → ExprKind × Place
    or z None = z
    or z (Some y) = y

    by_atom : (o : Option Atom) → beside (kind_in o x.place) x.place ≡ Some (k, p) → at true (λ a p. pure (leaf a p)) q o x ts ≡ Ok (measured (node k p) 1, ts)
    by_atom None h = cc
    by_atom (Some a) h = ap (λ (z : ExprKind × Place). Ok (measured (node z.0 z.1) 1, ts)) (ap (or (k, p)) h)

atom_miss : (q : Parser (Measured Expr)) (ts : List Token) → kind_at ts ≡ None → on an_atom true (λ a p. pure (leaf a p)) q ts ≡ q ts
unfolding on kind_at
atom_miss q [] e = refl
atom_miss q (x ∷ ts) e = by_atom (an_atom x.what) e
  where
    by_atom : (o : Option Atom) → beside (kind_in o x.place) x.place ≡ None → at true (λ a p. pure (leaf a p)) q o x ts ≡ q (x ∷ ts)
    by_atom None h = refl
    by_atom (Some a) h = cc

-- ---- by the next token

module _ (d : ℕ) (ts : List Token) where
  pub operand_atom : (k : ExprKind) (p : Place) → kind_at ts ≡ Some (k, p) → operand (parts d) true ts ≡ Ok (measured (node k p) 1, rest ts)
  unfolding operand
  operand_atom k p h = atom_hit _ ts k p h

  pub operand_name : (n : Bytes) (p : Place) → kind_at ts ≡ None → name_at ts ≡ Some (n, p) → operand (parts d) true ts ≡ suffixes (parts d) (name_leaf n p) (rest ts)
  unfolding operand
  operand_name n p a h = atom_miss _ ts a ∙ name_hit _ _ _ ts n p h refl

  pub operand_name_alone : (n : Bytes) (p : Place) → kind_at ts ≡ None → name_at ts ≡ Some (n, p) → suffix_at (rest ts) ≡ false → operand (parts d) true ts ≡ Ok (name_leaf n p, rest ts)
  operand_name_alone n p a h k = operand_name n p a h ∙ suffix_none d (name_leaf n p) (rest ts) k

  at_group : (p : Place) → kind_at ts ≡ None → name_at ts ≡ None → place_of (l.Sign s.OpenParen) ts ≡ Some p → nat_le 1 d ≡ true
      → operand (parts d) true ts ≡ and_then (group (parts d) p (rest ts)) (suffixes (parts d))
  unfolding operand
  at_group p a n h r = atom_miss _ ts a ∙ name_miss _ _ _ ts n ∙ is_hit (l.Sign s.OpenParen) _ _ _ ts p h (roomy d true r)

  pub operand_group : (p : Place) (e : Measured Expr) (us : List Token) → kind_at ts ≡ None → name_at ts ≡ None → place_of (l.Sign s.OpenParen) ts ≡ Some p → nat_le 1 d ≡ true
      → group (parts d) p (rest ts) ≡ Ok (e, us) → operand (parts d) true ts ≡ suffixes (parts d) e us
  operand_group p e us a n h r k = at_group p a n h r ∙ ap (λ r. and_then r (suffixes (parts d))) k

  pub operand_group_stop : (p : Place) (stop : Stop) → kind_at ts ≡ None → name_at ts ≡ None → place_of (l.Sign s.OpenParen) ts ≡ Some p → nat_le 1 d ≡ true
      → group (parts d) p (rest ts) ≡ Err stop → operand (parts d) true ts ≡ Err stop
  operand_group_stop p stop a n h r k = at_group p a n h r ∙ ap (λ r. and_then r (suffixes (parts d))) k

  pub operand_group_deep : kind_at ts ≡ None → name_at ts ≡ None → (place_of (l.Sign s.OpenParen) ts ≡ None → ⊥) → nat_le 1 d ≡ false → operand (parts d) true ts ≡ Err (deep, ts)
  unfolding operand
  operand_group_deep a n h r = atom_miss _ ts a ∙ name_miss _ _ _ ts n ∙ is_deep (l.Sign s.OpenParen) _ _ _ ts h (roomy d false r)

  pub operand_table : (p : Place) → kind_at ts ≡ None → name_at ts ≡ None → place_of (l.Sign s.OpenParen) ts ≡ None → place_of (l.Sign s.OpenBrace) ts ≡ Some p
      → operand (parts d) true ts ≡ table (parts d) p (rest ts)
  unfolding operand
  operand_table p a n m h = atom_miss _ ts a ∙ name_miss _ _ _ ts n ∙ is_miss (l.Sign s.OpenParen) _ _ _ ts m ∙ is_hit (l.Sign s.OpenBrace) _ _ _ ts p h refl

  at_function : (p : Place) → kind_at ts ≡ None → name_at ts ≡ None → place_of (l.Sign s.OpenParen) ts ≡ None → place_of (l.Sign s.OpenBrace) ts ≡ None
      → place_of (l.Word w.Function) ts ≡ Some p → nat_le 1 d ≡ true → operand (parts d) true ts ≡ and_then (function_body (parts d) p [] (rest ts)) (λ b. pure (function_node p b))
  unfolding operand
  at_function p a n m o h r = atom_miss _ ts a ∙ name_miss _ _ _ ts n ∙ is_miss (l.Sign s.OpenParen) _ _ _ ts m ∙ is_miss (l.Sign s.OpenBrace) _ _ _ ts o
      ∙ is_hit (l.Word w.Function) _ _ _ ts p h (roomy d true r)

  pub operand_function : (p : Place) (b : Measured Body) (us : List Token) → kind_at ts ≡ None → name_at ts ≡ None → place_of (l.Sign s.OpenParen) ts ≡ None
      → place_of (l.Sign s.OpenBrace) ts ≡ None → place_of (l.Word w.Function) ts ≡ Some p → nat_le 1 d ≡ true → function_body (parts d) p [] (rest ts) ≡ Ok (b, us)
      → operand (parts d) true ts ≡ Ok (function_node p b, us)
  operand_function p b us a n m o h r k = at_function p a n m o h r ∙ ap (λ r. and_then r (λ b. pure (function_node p b))) k

  pub operand_function_stop : (p : Place) (stop : Stop) → kind_at ts ≡ None → name_at ts ≡ None → place_of (l.Sign s.OpenParen) ts ≡ None
      → place_of (l.Sign s.OpenBrace) ts ≡ None → place_of (l.Word w.Function) ts ≡ Some p → nat_le 1 d ≡ true → function_body (parts d) p [] (rest ts) ≡ Err stop
      → operand (parts d) true ts ≡ Err stop
  operand_function_stop p stop a n m o h r k = at_function p a n m o h r ∙ ap (λ r. and_then r (λ b. pure (function_node p b))) k

  pub operand_function_deep : kind_at ts ≡ None → name_at ts ≡ None → place_of (l.Sign s.OpenParen) ts ≡ None → place_of (l.Sign s.OpenBrace) ts ≡ None
      → (place_of (l.Word w.Function) ts ≡ None → ⊥) → nat_le 1 d ≡ false → operand (parts d) true ts ≡ Err (deep, ts)
  unfolding operand
  operand_function_deep a n m o h r = atom_miss _ ts a ∙ name_miss _ _ _ ts n ∙ is_miss (l.Sign s.OpenParen) _ _ _ ts m ∙ is_miss (l.Sign s.OpenBrace) _ _ _ ts o
      ∙ is_deep (l.Word w.Function) _ _ _ ts h (roomy d false r)

  past_function : kind_at ts ≡ None → name_at ts ≡ None → place_of (l.Sign s.OpenParen) ts ≡ None → place_of (l.Sign s.OpenBrace) ts ≡ None → place_of (l.Word w.Function) ts ≡ None
      → operand (parts d) true ts ≡ on a_unary (nat_le 1 (parts d).depth) (λ op p. (parts d).expr 11 >>= λ e. pure (unary_node op p e)) refuse ts
  unfolding operand
  past_function a n m o h = atom_miss _ ts a ∙ name_miss _ _ _ ts n ∙ is_miss (l.Sign s.OpenParen) _ _ _ ts m ∙ is_miss (l.Sign s.OpenBrace) _ _ _ ts o ∙ is_miss (l.Word w.Function) _ _ _ ts h

  pub operand_unary : (op : Unary) (p : Place) (e : Measured Expr) (us : List Token) → kind_at ts ≡ None → name_at ts ≡ None → place_of (l.Sign s.OpenParen) ts ≡ None
      → place_of (l.Sign s.OpenBrace) ts ≡ None → place_of (l.Word w.Function) ts ≡ None → unary_at ts ≡ Some (op, p) → nat_le 1 d ≡ true → (parts d).expr 11 (rest ts) ≡ Ok (e, us)
      → operand (parts d) true ts ≡ Ok (unary_node op p e, us)
  unfolding unary_at
  operand_unary op p e us a n m o f h r k = past_function a n m o f ∙ look_hit a_unary _ _ _ ts op p h (roomy d true r) ∙ ap (λ r. and_then r (λ e. pure (unary_node op p e))) k

  pub operand_unary_stop : (op : Unary) (p : Place) (stop : Stop) → kind_at ts ≡ None → name_at ts ≡ None → place_of (l.Sign s.OpenParen) ts ≡ None
      → place_of (l.Sign s.OpenBrace) ts ≡ None → place_of (l.Word w.Function) ts ≡ None → unary_at ts ≡ Some (op, p) → nat_le 1 d ≡ true → (parts d).expr 11 (rest ts) ≡ Err stop
      → operand (parts d) true ts ≡ Err stop
  unfolding unary_at
  operand_unary_stop op p stop a n m o f h r k = past_function a n m o f ∙ look_hit a_unary _ _ _ ts op p h (roomy d true r) ∙ ap (λ r. and_then r (λ e. pure (unary_node op p e))) k

  pub operand_unary_deep : kind_at ts ≡ None → name_at ts ≡ None → place_of (l.Sign s.OpenParen) ts ≡ None → place_of (l.Sign s.OpenBrace) ts ≡ None → place_of (l.Word w.Function) ts ≡ None
      → (unary_at ts ≡ None → ⊥) → nat_le 1 d ≡ false → operand (parts d) true ts ≡ Err (deep, ts)
  unfolding unary_at
  operand_unary_deep a n m o f h r = past_function a n m o f ∙ look_deep a_unary _ _ _ ts h (roomy d false r)

  pub operand_none : kind_at ts ≡ None → name_at ts ≡ None → place_of (l.Sign s.OpenParen) ts ≡ None → place_of (l.Sign s.OpenBrace) ts ≡ None → place_of (l.Word w.Function) ts ≡ None
      → unary_at ts ≡ None → operand (parts d) true ts ≡ Err (bad, ts)
  unfolding unary_at
  operand_none a n m o f h = past_function a n m o f ∙ look_miss a_unary _ _ _ ts h

pub ruleset rules = (
  operand_atom,
  operand_name,
  operand_name_alone,
  operand_group,
  operand_group_stop,
  operand_group_deep,
  operand_table,
  operand_function,
  operand_function_stop,
  operand_function_deep,
  operand_unary,
  operand_unary_stop,
  operand_unary_deep,
  operand_none,
)

-- ---- with no room for anything

flat_operand : (ts : List Token) (c : Bool) → begins_at ts ≡ c → operand no_parts false ts ≡ (if c then Err (deep, ts) else Err (bad, ts))
unfolding operand on begins_at
flat_operand [] c e = ap (λ c. if c then Err (deep, []) else Err (bad, [])) e
flat_operand (x ∷ ts) c e = by_what x.what ∙ ap (λ c. if c then Err (deep, x ∷ ts) else Err (bad, x ∷ ts)) e
  where
    look : Lexeme → Outcome (Measured Expr)
    look y = operand no_parts false (record { what = y; place = x.place } ∷ ts)

    by_what : (y : Lexeme) → look y ≡ (if begins y then Err (deep, record { what = y; place = x.place } ∷ ts) else Err (bad, record { what = y; place = x.place } ∷ ts))
    by_what (l.Name n) = refl
    by_what (l.Int n) = refl
    by_what (l.Text t) = refl
    by_what l.End = refl
    by_what (l.Word w.Nil) = refl
    by_what (l.Word w.True) = refl
    by_what (l.Word w.False) = refl
    by_what (l.Word w.Function) = refl
    by_what (l.Word w.Not) = refl
    by_what (l.Word _) = refl
    by_what (l.Sign s.DotDotDot) = refl
    by_what (l.Sign s.OpenParen) = refl
    by_what (l.Sign s.OpenBrace) = refl
    by_what (l.Sign s.Hash) = refl
    by_what (l.Sign s.Minus) = refl
    by_what (l.Sign s.Tilde) = refl
    by_what (l.Sign _) = refl

module _ (m : ℕ) (ts : List Token) where
  pub flat_deep : begins_at ts ≡ true → (parts 0).expr m ts ≡ Err (deep, ts)
  unfolding from_level
  flat_deep h = ap (λ p. p ts) (expr_flat m) ∙ ap (λ r. and_then r (climb no_parts m)) (flat_operand ts true h)

  pub flat_bad : begins_at ts ≡ false → (parts 0).expr m ts ≡ Err (bad, ts)
  unfolding from_level
  flat_bad h = ap (λ p. p ts) (expr_flat m) ∙ ap (λ r. and_then r (climb no_parts m)) (flat_operand ts false h)
