-- More room changes no answer of the readers of expressions but a refusal for depth.
use Rattle.std.proofs.Common.{◌≡◌, refl, ℕ, nat_le, ◌≤◌, Bool, true, List, [], arith}
use Rattle.std.proofs.lemmas.Bool.{leb-true, le-leb}
use Rattle.lua_tokens.specs.declared.place.Place.{Place}
use Rattle.lua_tokens.specs.declared.token.Token.{Token}
use Rattle.lua_tokens.specs.declared.token.Lexeme.TheVariants as l
use Rattle.lua_tokens.specs.declared.sign.Sign.TheVariants as s
use Rattle.lua_tree.specs.declared.expr.Expr.{Expr}
use Rattle.lua_tree.specs.declared.expr.Field.{Field}
use Rattle.lua_grammar.specs.declared.measured.Measured.{Measured}
use Rattle.lua_grammar.specs.declared.measured.Arguments.{Arguments}
use Rattle.lua_grammar.specs.Tokens.{op_level, right_level}
use Rattle.lua_grammar.specs.Written.{Bytes}
use Rattle.lua_grammar.specs.Erasure.{text_node}
use Rattle.lua_grammar.specs.Input.{Parser, pure, refuse, ◌>>=◌, expect, Turn, again, done}
use Rattle.lua_grammar.specs.Expressions.{Parts, name_leaf, measured, arguments, only, dotted, indexed, called, method_called, grouped, list_turn, more_exprs, list, in_parens, on_args, on_index, on_call, suffix_turn, suffixes, separated, named_field, keyed_field, field_turn, table, nothing, last_dots, param_turn, parameters, function_body, group, operand, op_turn, climb, from_level, rest_of}
use Rattle.lua_grammar.proofs.Shorter.{ShorterParts, list_shrinks, suffix_shrinks, field_shrinks, param_shrinks, op_shrinks}
use Rattle.lua_grammar.proofs.LocalExpr.{LocalParts, list_turn_local, suffix_turn_local, field_turn_local, param_turn_local, op_turn_local, suffixes_local}
use Rattle.lua_grammar.proofs.Fronts.{Meets, then_meets}
use Rattle.lua_grammar.proofs.Kept.{Fam, when, Grows, always, pure_f, refuse_f, bind_f, expect_f, on_room, on_true, name_room, name_true, Yields, yields_on, yields_bind, many_fam, anything, bind_where, any_meets}

-- The readers of the parts at each depth, kept from d on.
pub record FamParts (d : ℕ) (P : ℕ → Parts) : Type 0 where
  pub shorter : (n : ℕ) → ShorterParts (P n)
  pub local : (n : ℕ) → LocalParts (P n)
  pub grows : (n : ℕ) → d ≤ n → (P d).depth ≤ (P n).depth
  pub reach : ℕ → ℕ
  pub reaches : (k n : ℕ) → reach k ≤ n → k ≤ (P n).depth
  pub expr : (m : ℕ) → Fam (Unit {0}) d (λ n. (P n).expr m)
  pub rest : (x : Bytes) (p : Place) → Fam (1 ≤ (P d).depth) d (λ n. (P n).rest (name_leaf x p))
  pub table : (p : Place) → Fam (1 ≤ (P d).depth) d (λ n. (P n).table p)
  pub block : Fam (1 ≤ (P d).depth) d (λ n. (P n).block)

-- ---- what goes on with a prefix is at least one deep

module _ {S A : Type 0} (I : S → Type 0) (P : Parts) (g : Measured Expr → Turn S A) (q : Parser (Turn S A))
    (made : (y : Measured Expr) → 1 ≤ y.depth → (ts : List Token) → Yields I (pure (g y) ts)) (hq : (ts : List Token) → Yields I (q ts)) where
  args_yields : (room : Bool) (f : Arguments → Measured Expr) (r : Parser (Turn S A)) → ((a : Arguments) → 1 ≤ (f a).depth) → ((ts : List Token) → Yields I (r ts)) → (ts : List Token)
      → Yields I (on_args P room (λ a. pure (g (f a))) r ts)
  args_yields room f r hf hr =
      let end : Arguments → Parser (Turn S A) = λ a. pure (g (f a)) in
      yields_on I _ _ _ _ (λ _ p. yields_bind {A = A} I (in_parens P p) end (λ a. made (f a) (hf a)))
      (yields_on I _ _ _ _ (λ _ p. yields_bind {A = A} I (P.table p) (λ e. end (arguments (only e) p)) (λ e. made (f (arguments (only e) p)) (hf (arguments (only e) p))))
      (yields_on I _ _ _ _ (λ t p. made (f (arguments (only (measured (text_node t p) 1)) p)) (hf (arguments (only (measured (text_node t p) 1)) p))) hr))

  pub index_yields : (e : Measured Expr) (ts : List Token) → Yields I (on_index P e g q ts)
  index_yields e =
      yields_on I _ _ _ _ (λ _ p. yields_on I _ _ _ _ (λ n r. made (dotted e p n r) (omega arith)) (λ vs. tt))
      (yields_on I _ _ _ _ (λ _ p. yields_bind {A = A} I (P.expr 0) (λ x. expect (l.Sign s.CloseBracket) >>= λ _. pure (g (indexed e p x)))
      (λ x. yields_bind {A = A} I (expect (l.Sign s.CloseBracket)) (λ _. pure (g (indexed e p x))) (λ _. made (indexed e p x) (omega arith)))) hq)

  pub call_yields : (e : Measured Expr) (ts : List Token) → Yields I (on_call P e g q ts)
  call_yields e =
      yields_on I _ _ _ _ (λ _ p. yields_on I _ _ _ _ (λ n r. args_yields true (method_called e n) refuse (λ a. omega arith) (λ xs. tt)) (λ vs. tt))
      (args_yields (nat_le e.depth P.depth) (called e) q (λ a. omega arith) hq)

abbrev pub AtLeastOne : Measured Expr → Type 0
AtLeastOne e = 1 ≤ e.depth

module _ (d : ℕ) (P : ℕ → Parts) (h : FamParts d P) where
  pub room_grows : (k : ℕ) → Grows d (λ n. nat_le k (P n).depth)
  room_grows k = record {
    stays = λ n le e. le-leb k (P n).depth (omega (arith, leb-true k (P d).depth e, h.grows n le));
    enough = h.reach k;
    there = λ n le. le-leb k (P n).depth (h.reaches k n le);
  }

  pub sub : {C : Type 0} (m : ℕ) → Fam C d (λ n. (P n).expr m)
  sub m = when (λ _. tt) (h.expr m)

  -- ---- lists

  pub list_fam : {C : Type 0} → Fam C d (λ n. list (P n))
  unfolding list more_exprs
  list_fam {C} =
      bind_f _ _ (λ e. many_fam C d (λ n. list_turn (P n)) (λ n. list_shrinks (P n) (h.shorter n)) (λ _. Unit {0}) (λ n. list_turn_local (P n) (h.shorter n) (h.local n))
      (λ found _. on_true _ _ _ (λ _. refl) refl (λ _ _. bind_f _ _ (λ e. pure_f _) (sub 0)) (pure_f _)) (λ s ts _. anything _) _ tt) (sub 0)

  -- ---- arguments

  in_parens_fam : {C : Type 0} (p : Place) → Fam C d (λ n. in_parens (P n) p)
  unfolding in_parens
  in_parens_fam p = on_true _ _ _ (λ _. refl) refl (λ _ _. pure_f _) (bind_f _ _ (λ es. bind_f _ _ (λ _. pure_f _) (expect_f _ (λ _. refl) refl)) list_fam)

  pub args_fam : {A C : Type 0} (room : ℕ → Bool) (g : Arguments → Parser A) (q : ℕ → Parser A) → Grows d room → (C → room d ≡ true → 1 ≤ (P d).depth)
      → ((C' : Type 0) (a : Arguments) → Fam C' d (λ _. g a)) → Fam C d q → Fam C d (λ n. on_args (P n) (room n) g (q n))
  args_fam {C = C} room g q gr some hg hq =
      on_room _ room _ _ gr (λ _. refl) refl (λ _ p. bind_f _ _ (λ a. hg _ a) (in_parens_fam p))
      (on_room _ room _ _ gr (λ _. refl) refl (λ _ p. bind_f _ _ (λ e. hg _ _) (when (λ (c : C × (room d ≡ true)). some c.0 c.1) (h.table p)))
      (on_room _ room _ _ gr (λ _. refl) refl (λ t p. hg _ _) hq))

  -- ---- what goes on with a prefix

  pub index_fam : {A C : Type 0} (e : Measured Expr) (g : Measured Expr → A) (q : ℕ → Parser A) → Fam C d q → Fam C d (λ n. on_index (P n) e g (q n))
  index_fam e g q hq =
      on_room _ _ _ _ (room_grows e.depth) (λ _. refl) refl (λ _ p. name_true _ _ (λ n r. pure_f _) (refuse_f _))
      (on_room _ _ _ _ (room_grows e.depth) (λ _. refl) refl (λ _ p. bind_f _ _ (λ x. bind_f _ _ (λ _. pure_f _) (expect_f _ (λ _. refl) refl)) (sub 0)) hq)

  some_depth : (e : Measured Expr) → 1 ≤ e.depth → nat_le e.depth (P d).depth ≡ true → 1 ≤ (P d).depth
  some_depth e i c = omega (arith, i, leb-true e.depth (P d).depth c)

  pub call_fam : {A C : Type 0} (e : Measured Expr) (g : Measured Expr → A) (q : ℕ → Parser A) → 1 ≤ e.depth → Fam C d q → Fam C d (λ n. on_call (P n) e g (q n))
  call_fam {C = C} e g q i hq =
      on_room _ _ _ _ (room_grows e.depth) (λ _. refl) refl
      (λ _ p. name_true _ _ (λ n r. args_fam {C = C × (nat_le e.depth (P d).depth ≡ true)} (λ _. true) _ _ (always d) (λ c _. some_depth e i c.1) (λ _ a. pure_f _) (refuse_f _)) (refuse_f _))
      (args_fam (λ n. nat_le e.depth (P n).depth) _ q (room_grows e.depth) (λ _ c. some_depth e i c) (λ _ a. pure_f _) hq)

  suffix_yields : (e : Measured Expr) → AtLeastOne e → (ts : List Token) → Yields AtLeastOne (suffix_turn (P d) e ts)
  suffix_yields e i ts = index_yields AtLeastOne (P d) again (on_call (P d) e again (pure (done e))) (λ y h us. h) (call_yields AtLeastOne (P d) again (pure (done e)) (λ y h us. h) (λ us. tt) e) e ts

  pub suffixes_fam : {C : Type 0} (e : Measured Expr) → 1 ≤ e.depth → Fam C d (λ n. suffixes (P n) e)
  unfolding suffixes
  suffixes_fam {C} e i =
      many_fam C d (λ n. suffix_turn (P n)) (λ n. suffix_shrinks (P n) (h.shorter n)) AtLeastOne (λ n. suffix_turn_local (P n) (h.shorter n) (h.local n))
      (λ x k. index_fam x again (λ n. on_call (P n) x again (pure (done x))) (call_fam x again (λ _. pure (done x)) k (pure_f _))) (λ x ts k. suffix_yields x k ts) e i

  -- ---- tables

  separated_fam : {C : Type 0} (found : Measured (List Field)) → Fam C d (λ n. separated (P n) found)
  separated_fam found = on_true _ _ _ (λ _. refl) refl (λ _ _. pure_f _) (on_true _ _ _ (λ _. refl) refl (λ _ _. pure_f _) (on_true _ _ _ (λ _. refl) refl (λ _ _. pure_f _) (refuse_f _)))

  named_fam : (found : Measured (List Field)) (n : Bytes) (p : Place) → Fam (1 ≤ (P d).depth) d (λ m. named_field (P m) found n p)
  unfolding named_field
  named_fam found n p = on_true _ _ _ (λ _. refl) refl (λ _ _. bind_f _ _ (λ e. separated_fam _) (sub 0)) (bind_f _ _ (λ e. separated_fam _) (h.rest n p))

  keyed_fam : {C : Type 0} (found : Measured (List Field)) → Fam C d (λ m. keyed_field (P m) found)
  unfolding keyed_field
  keyed_fam found =
      bind_f _ _ (λ x. bind_f _ _ (λ _. bind_f _ _ (λ _. bind_f _ _ (λ e. separated_fam _) (sub 0)) (expect_f _ (λ _. refl) refl)) (expect_f _ (λ _. refl) refl)) (sub 0)

  field_fam : {C : Type 0} (found : Measured (List Field)) → Fam C d (λ n. field_turn (P n) found)
  field_fam {C} found =
      on_true _ _ _ (λ _. refl) refl (λ _ _. pure_f _)
      (name_room _ _ _ (room_grows 1) (λ n p. when (λ (c : C × (nat_le 1 (P d).depth ≡ true)). leb-true 1 (P d).depth c.1) (named_fam found n p))
      (on_room _ _ _ _ (room_grows 1) (λ _. refl) refl (λ _ _. keyed_fam found) (bind_f _ _ (λ e. separated_fam _) (sub 0))))

  pub table_fam : {C : Type 0} (p : Place) → Fam C d (λ n. table (P n) p)
  unfolding table
  table_fam {C} p =
      bind_f _ _ (λ fs. pure_f _) (many_fam C d (λ n. field_turn (P n)) (λ n. field_shrinks (P n) (h.shorter n)) (λ _. Unit {0}) (λ n. field_turn_local (P n) (h.shorter n) (h.local n))
      (λ found _. field_fam found) (λ s ts _. anything _) nothing tt)

  -- ---- functions

  dots_fam : {C : Type 0} (found : List (Bytes × Place)) → Fam C d (λ n. last_dots (P n) found)
  dots_fam found = bind_f _ _ (λ _. pure_f _) (expect_f _ (λ _. refl) refl)

  param_fam : {C : Type 0} (found : List (Bytes × Place)) → Fam C d (λ n. param_turn (P n) found)
  param_fam found =
      on_true _ _ _ (λ _. refl) refl (λ _ _. name_true _ _ (λ n p. pure_f _) (on_true _ _ _ (λ _. refl) refl (λ _ _. bind_f _ _ (λ ps. pure_f _) (dots_fam found)) (refuse_f _)))
      (on_true _ _ _ (λ _. refl) refl (λ _ _. pure_f _) (refuse_f _))

  parameters_fam : {C : Type 0} (first : List (Bytes × Place)) → Fam C d (λ n. parameters (P n) first)
  unfolding parameters
  parameters_fam {C} first =
      name_true _ _ (λ n p. many_fam C d (λ m. param_turn (P m)) (λ m. param_shrinks (P m) (h.shorter m)) (λ _. Unit {0}) (λ m. param_turn_local (P m) (h.shorter m) (h.local m))
      (λ found _. param_fam found) (λ s ts _. anything _) _ tt)
      (on_true _ _ _ (λ _. refl) refl (λ _ _. dots_fam first) (on_true _ _ _ (λ _. refl) refl (λ _ _. pure_f _) (refuse_f _)))

  pub body_fam : (at : Place) (first : List (Bytes × Place)) → Fam (1 ≤ (P d).depth) d (λ n. function_body (P n) at first)
  unfolding function_body
  body_fam at first =
      bind_f _ _ (λ _. bind_f _ _ (λ ps. bind_f _ _ (λ b. bind_f _ _ (λ _. pure_f _) (expect_f _ (λ _. refl) refl)) h.block) (parameters_fam first)) (expect_f _ (λ _. refl) refl)

  -- ---- operands and operators

  pub group_fam : {C : Type 0} (p : Place) → Fam C d (λ n. group (P n) p)
  unfolding group
  group_fam p = bind_f _ _ (λ e. bind_f _ _ (λ _. pure_f _) (expect_f _ (λ _. refl) refl)) (sub 0)

  op_fam : {C : Type 0} (m : ℕ) (x : Measured Expr) → Fam C d (λ n. op_turn (P n) m x)
  op_fam m x = on_room _ _ _ _ (room_grows x.depth) (λ _. refl) refl (λ op p. bind_f _ _ (λ y. pure_f _) (sub (right_level (op_level op)))) (pure_f _)

  pub climb_fam : {C : Type 0} (m : ℕ) (x : Measured Expr) → Fam C d (λ n. climb (P n) m x)
  unfolding climb
  climb_fam {C} m x =
      many_fam C d (λ n. op_turn (P n) m) (λ n. op_shrinks (P n) (h.shorter n) m) (λ _. Unit {0}) (λ n. op_turn_local (P n) (h.shorter n) (h.local n) m) (λ y _. op_fam m y) (λ s ts _. anything _) x tt

  -- what is in parentheses is at least two deep
  pub group_deep : (n : ℕ) (p : Place) (ts : List Token) → Meets (λ (e : Measured Expr) _. 1 ≤ e.depth) (λ _. Unit {0}) (group (P n) p ts)
  unfolding group
  group_deep n p ts =
      then_meets (λ e. expect (l.Sign s.CloseParen) >>= λ _. pure (grouped p e)) (λ _ _. Unit {0}) (λ e _. 1 ≤ e.depth) (λ _. Unit {0}) (λ _. Unit {0}) ((P n).expr 0 ts) (any_meets ((P n).expr 0 ts)) (λ _ u. u)
      (λ e us _.
      then_meets (λ _. pure (grouped p e)) (λ _ _. Unit {0}) (λ e _. 1 ≤ e.depth) (λ _. Unit {0}) (λ _. Unit {0}) (expect (l.Sign s.CloseParen) us) (any_meets (expect (l.Sign s.CloseParen) us)) (λ _ u. u)
      (λ _ _ _. omega arith))

  pub operand_fam : {C : Type 0} → Fam C d (λ n. operand (P n) true)
  unfolding operand
  operand_fam {C} =
      on_true _ _ _ (λ _. refl) refl (λ a p. pure_f _)
      (name_true _ _ (λ n p. suffixes_fam (name_leaf n p) (omega arith))
      (on_room _ _ _ _ (room_grows 1) (λ _. refl) refl
      (λ _ p. bind_where (λ n. group (P n) p) (λ n. suffixes (P n)) AtLeastOne (group_deep d p) (λ e i. suffixes_fam e i) (λ n e. suffixes_local (P n) (h.shorter n) (h.local n) e) (group_fam p))
      (on_true _ _ _ (λ _. refl) refl (λ _ p. table_fam p)
      (on_room _ _ _ _ (room_grows 1) (λ _. refl) refl (λ _ p. bind_f _ _ (λ b. pure_f _) (when (λ (c : C × (nat_le 1 (P d).depth ≡ true)). leb-true 1 (P d).depth c.1) (body_fam p [])))
      (on_room _ _ _ _ (room_grows 1) (λ _. refl) refl (λ op p. bind_f _ _ (λ e. pure_f _) (sub 11)) (refuse_f _))))))

  pub level_fam : {C : Type 0} (m : ℕ) → Fam C d (λ n. from_level (P n) true m)
  unfolding from_level
  level_fam m = bind_f _ _ (climb_fam m) operand_fam

  pub rest_fam : {C : Type 0} (n : Bytes) (p : Place) → Fam C d (λ k. rest_of (P k) (name_leaf n p))
  unfolding rest_of
  rest_fam n p = bind_f _ _ (climb_fam 0) (suffixes_fam (name_leaf n p) (omega arith))
