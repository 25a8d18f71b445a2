-- How expressions are read, in one pass.
use Rattle.std.specs.Prelude.{ℕ, ◌+◌, max, nat_le, Bool, true, false, List, [], ◌∷◌, ◌++◌}
use Rattle.lua_tokens.specs.declared.place.Place.{Place}
use Rattle.lua_tokens.specs.declared.token.Lexeme.TheVariants as l
use Rattle.lua_tokens.specs.declared.sign.Sign.TheVariants as s
use Rattle.lua_tokens.specs.declared.word.Word.TheVariants as w
use Rattle.lua_tree.specs.declared.expr.Expr.{Expr}
use Rattle.lua_tree.specs.declared.expr.ExprKind.TheVariants as k
use Rattle.lua_tree.specs.declared.expr.Field.{Field}
use Rattle.lua_tree.specs.declared.expr.Field.TheVariants as f
use Rattle.lua_tree.specs.declared.stat.Stat.{Stat}
use Rattle.lua_tree.specs.declared.stat.Body.{Body}
use Rattle.lua_tree.specs.declared.operator.Unary.{Unary}
use Rattle.lua_grammar.specs.declared.measured.Measured.{Measured}
use Rattle.lua_grammar.specs.declared.measured.Arguments.{Arguments}
use Rattle.lua_grammar.specs.Tokens.{Op, op_level, right_level}
use Rattle.lua_grammar.specs.Written.{Bytes, Atom}
use Rattle.lua_grammar.specs.Erasure.{node, text_node, name_node, index_node, op_kind, atom_kind, body_of}
use Rattle.lua_grammar.specs.Next.{is_sign, is_word, a_name, a_text, an_atom, an_op_from, a_unary}
use Rattle.lua_grammar.specs.Input.{Parser, ◌>>=◌, pure, refuse, on, expect, Turn, again, done, many}

-- ---- nodes beside their depth

abbrev pub measured : {A : Type 0} → A → ℕ → Measured A
measured x d = record { what = x; depth = d }

abbrev pub leaf : Atom → Place → Measured Expr
leaf a p = measured (node (atom_kind a p) p) 1

abbrev pub name_leaf : Bytes → Place → Measured Expr
name_leaf n p = measured (name_node n p) 1

abbrev pub grouped : Place → Measured Expr → Measured Expr
grouped p e = measured (node (k.Paren e.what) p) (e.depth + 1)

abbrev pub dotted : Measured Expr → Place → Bytes → Place → Measured Expr
dotted e p n q = measured (index_node e.what p (text_node n q)) (e.depth + 1)

abbrev pub indexed : Measured Expr → Place → Measured Expr → Measured Expr
indexed e p x = measured (index_node e.what p x.what) (max e.depth x.depth + 1)

abbrev pub called : Measured Expr → Arguments → Measured Expr
called e a = measured (node (k.Call e.what a.exprs.what) a.place) (max e.depth a.exprs.depth + 1)

abbrev pub method_called : Measured Expr → Bytes → Arguments → Measured Expr
method_called e n a =
    measured (node (k.Method e.what n a.exprs.what) a.place) (max e.depth a.exprs.depth + 1)

abbrev pub unary_node : Unary → Place → Measured Expr → Measured Expr
unary_node op p e = measured (node (k.Unary op e.what) p) (e.depth + 1)

abbrev pub binary_node : Op → Place → Measured Expr → Measured Expr → Measured Expr
binary_node op p x y = measured (node (op_kind op x.what y.what) p) (max x.depth y.depth + 1)

abbrev pub function_node : Place → Measured Body → Measured Expr
function_node p b = measured (node (k.Function b.what) p) (b.depth + 1)

abbrev pub table_node : Place → Measured (List Field) → Measured Expr
table_node p fs = measured (node (k.Table fs.what) p) (fs.depth + 1)

-- lists, with one more at their end

abbrev pub nothing : {A : Type 0} → Measured (List A)
nothing = measured [] 0

abbrev pub with_one : {A : Type 0} → Measured (List A) → Measured A → Measured (List A)
with_one found x = measured (found.what ++ x.what ∷ []) (max found.depth x.depth)

abbrev pub only : {A : Type 0} → Measured A → Measured (List A)
only x = with_one nothing x

abbrev pub arguments : Measured (List Expr) → Place → Arguments
arguments es p = record { exprs = es; place = p }

-- ---- readers of the parts of something

pub record Parts : Type 0 where
  -- the parts have at most this depth
  pub depth : ℕ
  -- an expression of operators of this level and above
  pub expr : ℕ → Parser (Measured Expr)
  -- what goes on with an expression after the name that begins it
  pub rest : Measured Expr → Parser (Measured Expr)
  -- a table constructor after its brace
  pub table : Place → Parser (Measured Expr)
  -- the statements of a block
  pub block : Parser (Measured (List Stat))

module _ (P : Parts) where
  -- ---- lists of expressions

  abbrev pub list_turn : Measured (List Expr)
      → Parser (Turn (Measured (List Expr)) (Measured (List Expr)))
  list_turn found =
      on (is_sign s.Comma) true (λ _ _. P.expr 0 >>= λ e. pure (again (with_one found e)))
      (pure (done found))

  -- further expressions of a list
  unfoldable pub more_exprs : Measured (List Expr) → Parser (Measured (List Expr))
  more_exprs found = many list_turn found

  unfoldable pub list : Parser (Measured (List Expr))
  list = P.expr 0 >>= λ e. more_exprs (only e)

  -- ---- arguments of a call

  -- after the parenthesis
  unfoldable pub in_parens : Place → Parser Arguments
  in_parens p =
      on (is_sign s.CloseParen) true (λ _ _. pure (arguments nothing p))
      (list >>= λ es. expect (l.Sign s.CloseParen) >>= λ _. pure (arguments es p))

  -- arguments, and what is to be done with them; else the second reader goes on
  abbrev pub on_args : {A : Type 0} → Bool → (Arguments → Parser A) → Parser A → Parser A
  on_args room g q =
      on (is_sign s.OpenParen) room (λ _ p. in_parens p >>= g)
      (on (is_sign s.OpenBrace) room (λ _ p. P.table p >>= λ e. g (arguments (only e) p))
      (on a_text room (λ t p. g (arguments (only (measured (text_node t p) 1)) p)) q))

  -- ---- what goes on with a prefix

  abbrev pub on_index : {A : Type 0} → Measured Expr → (Measured Expr → A) → Parser A → Parser A
  on_index e g q =
      on (is_sign s.Dot) (nat_le e.depth P.depth)
      (λ _ p. on a_name true (λ n r. pure (g (dotted e p n r))) refuse)
      (on (is_sign s.OpenBracket) (nat_le e.depth P.depth)
      (λ _ p. P.expr 0 >>= λ x. expect (l.Sign s.CloseBracket) >>= λ _.
      pure (g (indexed e p x))) q)

  abbrev pub on_call : {A : Type 0} → Measured Expr → (Measured Expr → A) → Parser A → Parser A
  on_call e g q =
      on (is_sign s.Colon) (nat_le e.depth P.depth)
      (λ _ p. on a_name true (λ n r. on_args true
      (λ a. pure (g (method_called e n a))) refuse) refuse)
      (on_args (nat_le e.depth P.depth) (λ a. pure (g (called e a))) q)

  abbrev pub suffix_turn : Measured Expr → Parser (Turn (Measured Expr) (Measured Expr))
  suffix_turn e = on_index e again (on_call e again (pure (done e)))

  unfoldable pub suffixes : Measured Expr → Parser (Measured Expr)
  suffixes e = many suffix_turn e

  -- ---- table constructors

  -- after a field
  abbrev pub separated : Measured (List Field)
      → Parser (Turn (Measured (List Field)) (Measured (List Field)))
  separated found =
      on (is_sign s.Comma) true (λ _ _. pure (again found))
      (on (is_sign s.Semicolon) true (λ _ _. pure (again found))
      (on (is_sign s.CloseBrace) true (λ _ _. pure (done found)) refuse))

  abbrev pub single_field : Measured (List Field) → Measured Expr
      → Parser (Turn (Measured (List Field)) (Measured (List Field)))
  single_field found e = separated (with_one found (measured (f.Item e.what) e.depth))

  -- after the name that begins a field
  unfoldable pub named_field : Measured (List Field) → Bytes → Place
      → Parser (Turn (Measured (List Field)) (Measured (List Field)))
  named_field found n p =
      on (is_sign s.Equal) true (λ _ _. P.expr 0 >>= λ e.
      separated (with_one found (measured (f.Named n e.what) e.depth)))
      (P.rest (name_leaf n p) >>= single_field found)

  -- after the bracket that begins a field
  unfoldable pub keyed_field : Measured (List Field)
      → Parser (Turn (Measured (List Field)) (Measured (List Field)))
  keyed_field found =
      P.expr 0 >>= λ x. expect (l.Sign s.CloseBracket) >>= λ _. expect (l.Sign s.Equal) >>= λ _.
      P.expr 0 >>= λ e.
      separated (with_one found (measured (f.Keyed x.what e.what) (max x.depth e.depth)))

  abbrev pub field_turn : Measured (List Field)
      → Parser (Turn (Measured (List Field)) (Measured (List Field)))
  field_turn found =
      on (is_sign s.CloseBrace) true (λ _ _. pure (done found))
      (on a_name (nat_le 1 P.depth) (named_field found)
      (on (is_sign s.OpenBracket) (nat_le 1 P.depth) (λ _ _. keyed_field found)
      (P.expr 0 >>= single_field found)))

  -- after the brace
  unfoldable pub table : Place → Parser (Measured Expr)
  table p = many field_turn nothing >>= λ fs. pure (table_node p fs)

  -- ---- functions

  abbrev pub last_dots : List (Bytes × Place) → Parser (List (Bytes × Place) × Bool)
  last_dots found = expect (l.Sign s.CloseParen) >>= λ _. pure (found, true)

  abbrev pub param_turn : List (Bytes × Place)
      → Parser (Turn (List (Bytes × Place)) (List (Bytes × Place) × Bool))
  param_turn found =
      on (is_sign s.Comma) true (λ _ _.
      on a_name true (λ n p. pure (again (found ++ (n, p) ∷ [])))
      (on (is_sign s.DotDotDot) true (λ _ _. last_dots found >>= λ ps. pure (done ps)) refuse))
      (on (is_sign s.CloseParen) true (λ _ _. pure (done (found, false))) refuse)

  -- parameters after the parenthesis, up to the one that closes them
  unfoldable pub parameters : List (Bytes × Place) → Parser (List (Bytes × Place) × Bool)
  parameters first =
      on a_name true (λ n p. many param_turn (first ++ (n, p) ∷ []))
      (on (is_sign s.DotDotDot) true (λ _ _. last_dots first)
      (on (is_sign s.CloseParen) true (λ _ _. pure (first, false)) refuse))

  -- what follows the word `function` at this place, and a name
  unfoldable pub function_body : Place → List (Bytes × Place) → Parser (Measured Body)
  function_body at first =
      expect (l.Sign s.OpenParen) >>= λ _. parameters first >>= λ ps. P.block >>= λ b.
      expect (l.Word w.End) >>= λ _.
      pure (measured (body_of ps.0 ps.1 b.what at.line) b.depth)

  -- ---- operands and operators

  -- after the parenthesis
  unfoldable pub group : Place → Parser (Measured Expr)
  group p = P.expr 0 >>= λ e. expect (l.Sign s.CloseParen) >>= λ _. pure (grouped p e)

  -- An expression without a binary operator. The flag says whether there is room for any.
  unfoldable pub operand : Bool → Parser (Measured Expr)
  operand here =
      on an_atom here (λ a p. pure (leaf a p))
      (on a_name here (λ n p. suffixes (name_leaf n p))
      (on (is_sign s.OpenParen) (nat_le 1 P.depth) (λ _ p. group p >>= suffixes)
      (on (is_sign s.OpenBrace) here (λ _ p. table p)
      (on (is_word w.Function) (nat_le 1 P.depth)
      (λ _ p. function_body p [] >>= λ b. pure (function_node p b))
      (on a_unary (nat_le 1 P.depth) (λ op p. P.expr 11 >>= λ e.
      pure (unary_node op p e)) refuse)))))

  abbrev pub op_turn : ℕ → Measured Expr → Parser (Turn (Measured Expr) (Measured Expr))
  op_turn m x =
      on (an_op_from m) (nat_le x.depth P.depth)
      (λ op p. P.expr (right_level (op_level op)) >>= λ y. pure (again (binary_node op p x y)))
      (pure (done x))

  -- operators of this level and above after an expression
  unfoldable pub climb : ℕ → Measured Expr → Parser (Measured Expr)
  climb m x = many (op_turn m) x

  unfoldable pub from_level : Bool → ℕ → Parser (Measured Expr)
  from_level here m = operand here >>= climb m

  unfoldable pub rest_of : Measured Expr → Parser (Measured Expr)
  rest_of e = suffixes e >>= climb 0
