-- Expressions are read from what spells them, over complete readers of their parts.
use Rattle.std.proofs.Common.{◌≡◌, refl, ◌∙◌, ap, ℕ, suc, ◌<◌, ◌≤◌, true, List, [], ◌∷◌, Ok, arith, nat_le}
use Rattle.lua_tokens.specs.declared.place.Place.{Place}
use Rattle.lua_tokens.specs.declared.token.Token.{Token}
use Rattle.lua_tokens.specs.declared.token.Lexeme.TheVariants as l
use Rattle.lua_tokens.specs.declared.sign.Sign.TheVariants as s
use Rattle.lua_tokens.specs.declared.word.Word.TheVariants as w
use Rattle.lua_tree.specs.declared.expr.Expr.{Expr}
use Rattle.lua_tree.specs.declared.operator.Unary.{Unary}
use Rattle.lua_tree.specs.declared.operator.Unary.TheVariants as u
use Rattle.lua_grammar.specs.declared.measured.Measured.{Measured}
use Rattle.lua_grammar.specs.Tokens.{token, sign, word, name, Op, op_level, left_level, right_level, op_lexeme, unary_lexeme}
use Rattle.lua_grammar.specs.Written.{Bytes, Atom, nil, yes, no, int, quote, dots, Exp, atom, function, variable, group, field, item, call, method, table, unary, binary, Args, listed, braced, quoted}
use Rattle.lua_grammar.specs.Spelling.{atom_lexeme, spell, spell_args, spell_body, spell_fields, first}
use Rattle.lua_grammar.specs.Formed.{level, IsPrefix, ends_in_prefix, Formed, FormedArgs}
use Rattle.lua_grammar.specs.Erasure.{args_place, expr_of, args_of}
use Rattle.lua_grammar.specs.Input.{Parser, ◌>>=◌, expect, and_then, at, on, pure, refuse, again, done}
use Rattle.lua_grammar.specs.Expressions.{measured, leaf, name_leaf, dotted, indexed, called, method_called, unary_node, binary_node, function_node, arguments, Parts, on_args, on_index, on_call, suffix_turn, suffixes, table as table_reader, function_body, group as group_reader, operand, op_turn, climb, from_level}
use Rattle.lua_grammar.proofs.Heights.{height, args_height}
use Rattle.lua_grammar.proofs.DepthLaws.{height_pos, body_pos}
use Rattle.lua_grammar.proofs.Loops.{many_done, many_again}
use Rattle.lua_grammar.proofs.Shorter.{ShorterParts, suffix_shrinks, op_shrinks}
use Rattle.lua_grammar.proofs.Complete.{then_ok, expected, in_room, on_lacks, NoSuffix, Apart, Below, close_paren, close_bracket, op_from_is, op_from_not, raise, edge, right_high, op_low, none_from, left_ends, left_high}
use Rattle.std.proofs.lemmas.Bool.{le-leb}
use Rattle.lua_grammar.proofs.Starts.{op_starts}
use Rattle.lua_grammar.proofs.CompleteList.{CompleteParts, enclosed, args_read, table_read, body_read}

-- an expression as its reader answers it
abbrev pub read_as : Exp → Measured Expr
read_as e = measured (expr_of e) (height e)

module _ (P : Parts) (h : ShorterParts P) (c : CompleteParts P) where
  -- ---- steps of a prefix, at whatever is done with it

  module _ {A : Type 0} (g : Measured Expr → A) (q : Parser A) where
    pub field_step : (e : Measured Expr) (p : Place) (n : Bytes) (r : Place) (k : List Token) → e.depth ≤ P.depth → on_index P e g q (sign s.Dot p ∷ name n r ∷ k) ≡ Ok (g (dotted e p n r), k)
    unfolding on
    field_step e p n r k d = in_room _ _ _ _ _ d refl

    item_turn : (e : Measured Expr) (p : Place) (k : List Token) → e.depth ≤ P.depth
        → on_index P e g q (sign s.OpenBracket p ∷ k) ≡ and_then (P.expr 0 k) (λ x ts. and_then (expect (l.Sign s.CloseBracket) ts) (λ _. pure (g (indexed e p x))))
    unfolding on
    item_turn e p k d = in_room _ _ _ _ _ d refl

    pub item_step : (e : Measured Expr) (p : Place) (x : Exp) (r : Place) (k : List Token) → e.depth ≤ P.depth → Formed x → height x ≤ P.depth
        → on_index P e g q (sign s.OpenBracket p ∷ spell x (sign s.CloseBracket r ∷ k)) ≡ Ok (g (indexed e p (read_as x)), k)
    item_step e p x r k d f dx =
        item_turn e p (spell x (sign s.CloseBracket r ∷ k)) d
        ∙ then_ok _ _ _ _ _ (enclosed P h c x f dx close_bracket r k) (then_ok _ _ _ _ _ (expected (l.Sign s.CloseBracket) r k) refl)

    pub no_index : (e : Measured Expr) (a : Args) (k : List Token) → on_index P e g q (spell_args a k) ≡ q (spell_args a k)
    unfolding on
    no_index e (listed p es r) k = refl
    no_index e (braced p fs r) k = refl
    no_index e (quoted t p) k = refl

    pub no_colon_index : (e : Measured Expr) (p : Place) (k : List Token) → on_index P e g q (sign s.Colon p ∷ k) ≡ q (sign s.Colon p ∷ k)
    unfolding on
    no_colon_index e p k = refl

    no_method : (e : Measured Expr) (a : Args) (k : List Token) → on_call P e g q (spell_args a k) ≡ on_args P (nat_le e.depth P.depth) (λ a. pure (g (called e a))) q (spell_args a k)
    unfolding on
    no_method e (listed p es r) k = refl
    no_method e (braced p fs r) k = refl
    no_method e (quoted t p) k = refl

    pub call_step : (e : Measured Expr) (a : Args) (k : List Token) → e.depth ≤ P.depth → FormedArgs a → args_height a ≤ P.depth
        → on_call P e g q (spell_args a k) ≡ Ok (g (called e (arguments (measured (args_of a) (args_height a)) (args_place a))), k)
    call_step e a k d f da = no_method e a k ∙ args_read P h c _ _ _ a k (le-leb e.depth P.depth d) f da

    method_turn : (e : Measured Expr) (p : Place) (n : Bytes) (r : Place) (k : List Token) → e.depth ≤ P.depth
        → on_call P e g q (sign s.Colon p ∷ name n r ∷ k) ≡ on_args P true (λ a. pure (g (method_called e n a))) refuse k
    unfolding on
    method_turn e p n r k d = in_room _ _ _ _ _ d refl

    pub method_step : (e : Measured Expr) (p : Place) (n : Bytes) (r : Place) (a : Args) (k : List Token) → e.depth ≤ P.depth → FormedArgs a → args_height a ≤ P.depth
        → on_call P e g q (sign s.Colon p ∷ name n r ∷ spell_args a k) ≡ Ok (g (method_called e n (arguments (measured (args_of a) (args_height a)) (args_place a))), k)
    method_step e p n r a k d f da = method_turn e p n r (spell_args a k) d ∙ args_read P h c _ _ _ a k refl f da

    pub index_ends : (e : Measured Expr) (k : List Token) → NoSuffix (first k) → on_index P e g q k ≡ q k
    index_ends e k n = on_lacks _ _ _ _ k n.dot ∙ on_lacks _ _ _ _ k n.bracket

    pub call_ends : (e : Measured Expr) (k : List Token) → NoSuffix (first k) → on_call P e g q k ≡ q k
    call_ends e k n = on_lacks _ _ _ _ k n.colon ∙ on_lacks _ _ _ _ k n.paren ∙ on_lacks _ _ _ _ k n.brace ∙ on_lacks _ _ _ _ k n.text

-- an operator's left part ends before it
left_edge : (op : Op) (x : Exp) → left_level (op_level op) ≤ level x → op_level op < edge x
left_edge op (binary o p x y) f = left_ends (op_level op) (op_level o) f
left_edge op (atom a p) f = omega (arith, op_low op)
left_edge op (function p b) f = omega (arith, op_low op)
left_edge op (variable n p) f = omega (arith, op_low op)
left_edge op (group p e q) f = omega (arith, op_low op)
left_edge op (field e p n q) f = omega (arith, op_low op)
left_edge op (item e p x q) f = omega (arith, op_low op)
left_edge op (call e a) f = omega (arith, op_low op)
left_edge op (method e p n q a) f = omega (arith, op_low op)
left_edge op (table p fs q) f = omega (arith, op_low op)
left_edge op (unary o p e) f = omega (arith, op_low op)

-- One step of what follows a prefix, whose parts Q reads where it is an index and R where it is a call.
module _ (Q R : Parts) (hq : ShorterParts Q) (hr : ShorterParts R) (cq : CompleteParts Q) (cr : CompleteParts R) {A : Type 0} (g f : Measured Expr → A) (q : Parser A) where
  abbrev pub spine_turn : Measured Expr → Parser A
  spine_turn e = on_index Q e g (on_call R e f q)

  pub field_extends : (e : Exp) (p : Place) (n : Bytes) (r : Place) (k : List Token) → height e ≤ Q.depth → spine_turn (read_as e) (sign s.Dot p ∷ name n r ∷ k) ≡ Ok (g (read_as (field e p n r)), k)
  field_extends e p n r k d = field_step Q hq cq g (on_call R (read_as e) f q) (read_as e) p n r k d

  pub item_extends : (e : Exp) (p : Place) (x : Exp) (r : Place) (k : List Token) → height e ≤ Q.depth → Formed x → height x ≤ Q.depth
      → spine_turn (read_as e) (sign s.OpenBracket p ∷ spell x (sign s.CloseBracket r ∷ k)) ≡ Ok (g (read_as (item e p x r)), k)
  item_extends e p x r k d fx dx = item_step Q hq cq g (on_call R (read_as e) f q) (read_as e) p x r k d fx dx

  pub call_extends : (e : Exp) (a : Args) (k : List Token) → height e ≤ R.depth → FormedArgs a → args_height a ≤ R.depth → spine_turn (read_as e) (spell_args a k) ≡ Ok (f (read_as (call e a)), k)
  call_extends e a k d fa da = no_index Q hq cq g (on_call R (read_as e) f q) (read_as e) a k ∙ call_step R hr cr f q (read_as e) a k d fa da

  pub method_extends : (e : Exp) (p : Place) (n : Bytes) (r : Place) (a : Args) (k : List Token) → height e ≤ R.depth → FormedArgs a → args_height a ≤ R.depth
      → spine_turn (read_as e) (sign s.Colon p ∷ name n r ∷ spell_args a k) ≡ Ok (f (read_as (method e p n r a)), k)
  method_extends e p n r a k d fa da =
      no_colon_index Q hq cq g (on_call R (read_as e) f q) (read_as e) p (name n r ∷ spell_args a k) ∙ method_step R hr cr f q (read_as e) p n r a k d fa da

  pub spine_ends : (e : Measured Expr) (k : List Token) → NoSuffix (first k) → spine_turn e k ≡ q k
  spine_ends e k n = index_ends Q hq cq g (on_call R e f q) e k n ∙ call_ends R hr cr f q e k n

module _ (P : Parts) (h : ShorterParts P) (c : CompleteParts P) where
  -- ---- prefixes

  pub group_read : (p : Place) (e : Exp) (q : Place) (k : List Token) → Formed e → height e ≤ P.depth → group_reader P p (spell e (sign s.CloseParen q ∷ k)) ≡ Ok (read_as (group p e q), k)
  unfolding group_reader
  group_read p e q k f d = then_ok _ _ _ _ _ (enclosed P h c e f d close_paren q k) (then_ok _ _ _ _ _ (expected (l.Sign s.CloseParen) q k) refl)

  name_begins : (n : Bytes) (p : Place) (k : List Token) → operand P true (name n p ∷ k) ≡ suffixes P (name_leaf n p) k
  unfolding operand on
  name_begins n p k = refl

  group_begins : (p : Place) (k : List Token) → 1 ≤ P.depth → operand P true (sign s.OpenParen p ∷ k) ≡ and_then (group_reader P p k) (suffixes P)
  unfolding operand on
  group_begins p k d = in_room _ _ _ _ _ d refl

  one_more : (x y : Measured Expr) (ts k : List Token) → suffix_turn P x ts ≡ Ok (again y, k) → suffixes P x ts ≡ suffixes P y k
  unfolding suffixes
  one_more x y ts k e = many_again (suffix_turn P) (suffix_shrinks P h) x y ts k e

  no_more_suffixes : (e : Measured Expr) (k : List Token) → NoSuffix (first k) → suffixes P e k ≡ Ok (e, k)
  unfolding suffixes
  no_more_suffixes e k n = many_done (suffix_turn P) (suffix_shrinks P h) e k k e (spine_ends P P h h c c again again (pure (done e)) e k n)

  prefix_read : (e : Exp) → IsPrefix e → Formed e → height e ≤ suc P.depth → (k : List Token) → operand P true (spell e k) ≡ suffixes P (read_as e) k
  prefix_read (variable n p) i f d k = name_begins n p k
  prefix_read (group p e q) i f d k =
      group_begins p (spell e (sign s.CloseParen q ∷ k)) (omega (arith, d, height_pos e)) ∙ then_ok _ _ _ _ _ (group_read p e q k f (omega (arith, d))) refl
  prefix_read (field e p n q) i f d k =
      prefix_read e f.1 f.0 (omega (arith, d)) (sign s.Dot p ∷ name n q ∷ k)
      ∙ one_more (read_as e) (read_as (field e p n q)) (sign s.Dot p ∷ name n q ∷ k) k (field_extends P P h h c c again again (pure (done (read_as e))) e p n q k (omega (arith, d)))
  prefix_read (item e p x q) i f d k =
      prefix_read e f.1 f.0 (omega (arith, d)) (sign s.OpenBracket p ∷ spell x (sign s.CloseBracket q ∷ k))
      ∙ one_more (read_as e) (read_as (item e p x q)) (sign s.OpenBracket p ∷ spell x (sign s.CloseBracket q ∷ k)) k
      (item_extends P P h h c c again again (pure (done (read_as e))) e p x q k (omega (arith, d)) f.2 (omega (arith, d)))
  prefix_read (call e a) i f d k =
      prefix_read e f.1 f.0 (omega (arith, d)) (spell_args a k)
      ∙ one_more (read_as e) (read_as (call e a)) (spell_args a k) k (call_extends P P h h c c again again (pure (done (read_as e))) e a k (omega (arith, d)) f.2 (omega (arith, d)))
  prefix_read (method e p n q a) i f d k =
      prefix_read e f.1 f.0 (omega (arith, d)) (sign s.Colon p ∷ name n q ∷ spell_args a k)
      ∙ one_more (read_as e) (read_as (method e p n q a)) (sign s.Colon p ∷ name n q ∷ spell_args a k) k
      (method_extends P P h h c c again again (pure (done (read_as e))) e p n q a k (omega (arith, d)) f.2 (omega (arith, d)))
  prefix_read (atom a p) i f d k = absurd i
  prefix_read (function p b) i f d k = absurd i
  prefix_read (table p fs q) i f d k = absurd i
  prefix_read (unary op p e) i f d k = absurd i
  prefix_read (binary op p x y) i f d k = absurd i

  -- ---- operands

  atom_begins : (a : Atom) (p : Place) (k : List Token) → operand P true (token (atom_lexeme a) p ∷ k) ≡ Ok (leaf a p, k)
  unfolding operand on
  atom_begins nil p k = refl
  atom_begins yes p k = refl
  atom_begins no p k = refl
  atom_begins (int n) p k = refl
  atom_begins (quote t) p k = refl
  atom_begins dots p k = refl

  table_begins : (p : Place) (k : List Token) → operand P true (sign s.OpenBrace p ∷ k) ≡ table_reader P p k
  unfolding operand on
  table_begins p k = refl

  function_begins : (p : Place) (k : List Token) → 1 ≤ P.depth → operand P true (word w.Function p ∷ k) ≡ and_then (function_body P p [] k) (λ b. pure (function_node p b))
  unfolding operand on
  function_begins p k d = in_room _ _ _ _ _ d refl

  unary_begins : (op : Unary) (p : Place) (k : List Token) → 1 ≤ P.depth → operand P true (token (unary_lexeme op) p ∷ k) ≡ and_then (P.expr 11 k) (λ e. pure (unary_node op p e))
  unfolding operand on
  unary_begins u.Not p k d = in_room _ _ _ _ _ d refl
  unary_begins u.Len p k d = in_room _ _ _ _ _ d refl
  unary_begins u.Neg p k d = in_room _ _ _ _ _ d refl
  unary_begins u.BitNot p k d = in_room _ _ _ _ _ d refl

  high_edge : (e : Exp) → level e ≤ edge e
  high_edge (atom a p) = omega arith
  high_edge (function p b) = omega arith
  high_edge (variable n p) = omega arith
  high_edge (group p e q) = omega arith
  high_edge (field e p n q) = omega arith
  high_edge (item e p x q) = omega arith
  high_edge (call e a) = omega arith
  high_edge (method e p n q a) = omega arith
  high_edge (table p fs q) = omega arith
  high_edge (unary op p e) = omega arith
  high_edge (binary op p x y) = right_high (op_level op)

  unary_read : (op : Unary) (p : Place) (e : Exp) → Formed e → 11 ≤ level e → height e ≤ P.depth → (k : List Token) → (ends_in_prefix e ≡ true → NoSuffix (first k)) → P.expr 11 (spell e k) ≡ Ok (read_as e, k)
  unary_read op p e f high d k n =
      c.expr 11 e f high d k (record { no_suffix = n; no_part = none_from (edge e) (first k) (omega (arith, high, high_edge e)) }) (none_from 11 (first k) (omega arith))

  whole_prefix : (e : Exp) → IsPrefix e → Formed e → height e ≤ suc P.depth → (k : List Token) → NoSuffix (first k) → operand P true (spell e k) ≡ Ok (read_as e, k)
  whole_prefix e i f d k n = prefix_read e i f d k ∙ no_more_suffixes (read_as e) k n

  operand_read : (e : Exp) → Formed e → 11 ≤ level e → height e ≤ suc P.depth → (k : List Token) → (ends_in_prefix e ≡ true → NoSuffix (first k)) → operand P true (spell e k) ≡ Ok (read_as e, k)
  operand_read (atom a p) f high d k n = atom_begins a p k
  operand_read (function p b) f high d k n = function_begins p (spell_body b k) (omega (arith, d, body_pos b)) ∙ then_ok _ _ _ _ _ (body_read P h c p [] b f (omega (arith, d)) k) refl
  operand_read (variable m p) f high d k n = whole_prefix (variable m p) tt f d k (n refl)
  operand_read (group p e q) f high d k n = whole_prefix (group p e q) tt f d k (n refl)
  operand_read (field e p m q) f high d k n = whole_prefix (field e p m q) tt f d k (n refl)
  operand_read (item e p x q) f high d k n = whole_prefix (item e p x q) tt f d k (n refl)
  operand_read (call e a) f high d k n = whole_prefix (call e a) tt f d k (n refl)
  operand_read (method e p m q a) f high d k n = whole_prefix (method e p m q a) tt f d k (n refl)
  operand_read (table p fs q) f high d k n = table_begins p (spell_fields fs (sign s.CloseBrace q ∷ k)) ∙ table_read P h c p fs f (omega (arith, d)) q k
  operand_read (unary op p e) f high d k n =
      unary_begins op p (spell e k) (omega (arith, d, height_pos e)) ∙ then_ok _ _ _ _ _ (unary_read op p e f.0 f.1 (omega (arith, d)) k n) refl
  operand_read (binary op p x y) f high d k n = absurd (omega (arith, high, op_low op))

  -- ---- operators

  module _ (m : ℕ) where
    op_begins : (x : Measured Expr) (op : Op) (p : Place) (k : List Token) → m ≤ op_level op → x.depth ≤ P.depth
        → op_turn P m x (token (op_lexeme op) p ∷ k) ≡ and_then (P.expr (right_level (op_level op)) k) (λ y. pure (again (binary_node op p x y)))
    unfolding on
    op_begins x op p k low d =
        ap (λ o. at (nat_le x.depth P.depth) (λ op p. P.expr (right_level (op_level op)) >>= λ y. pure (again (binary_node op p x y))) (pure (done x)) o (token (op_lexeme op) p) k) (op_from_is m op low)
        ∙ in_room _ _ _ _ _ d refl

    one_operator : (x y : Measured Expr) (ts k : List Token) → op_turn P m x ts ≡ Ok (again y, k) → climb P m x ts ≡ climb P m y k
    unfolding climb
    one_operator x y ts k e = many_again (op_turn P m) (op_shrinks P h m) x y ts k e

    no_more_operators : (x : Measured Expr) (k : List Token) → Below m (first k) → climb P m x k ≡ Ok (x, k)
    unfolding climb
    no_more_operators x k b = many_done (op_turn P m) (op_shrinks P h m) x k k x (on_lacks _ _ _ _ k b)

    right_read : (op : Op) (y : Exp) → Formed y → right_level (op_level op) ≤ level y → height y ≤ P.depth → (k : List Token) → (ends_in_prefix y ≡ true → NoSuffix (first k))
        → Below (right_level (op_level op)) (first k) → P.expr (right_level (op_level op)) (spell y k) ≡ Ok (read_as y, k)
    right_read op y f high d k n b =
        c.expr (right_level (op_level op)) y f high d k (record { no_suffix = n; no_part = raise (right_level (op_level op)) (edge y) (first k) (omega (arith, high, high_edge y)) b }) b

    as_operand : (e : Exp) → Formed e → 11 ≤ level e → height e ≤ suc P.depth → (k : List Token) → Apart e (first k) → from_level P true m (spell e k) ≡ climb P m (read_as e) k
    unfolding from_level
    as_operand e f high d k a = then_ok _ _ _ _ _ (operand_read e f high d k a.no_suffix) refl

    -- an expression up to the operators after it
    reach : (e : Exp) → Formed e → m ≤ level e → height e ≤ suc P.depth → (k : List Token) → Apart e (first k) → from_level P true m (spell e k) ≡ climb P m (read_as e) k
    reach (binary op p x y) f low d k a =
        reach x f.0 (omega (arith, low, left_high (op_level op), f.2)) (omega (arith, d)) (token (op_lexeme op) p ∷ spell y k)
        (record { no_suffix = λ _. op_starts op; no_part = op_from_not (edge x) op (left_edge op x f.2) })
        ∙ one_operator (read_as x) (read_as (binary op p x y)) (token (op_lexeme op) p ∷ spell y k) k
        (op_begins (read_as x) op p (spell y k) low (omega (arith, d)) ∙ then_ok _ _ _ _ _ (right_read op y f.1 f.3 (omega (arith, d)) k a.no_suffix a.no_part) refl)
    reach (atom b p) f low d k a = as_operand (atom b p) f (omega arith) d k a
    reach (function p b) f low d k a = as_operand (function p b) f (omega arith) d k a
    reach (variable n p) f low d k a = as_operand (variable n p) f (omega arith) d k a
    reach (group p e q) f low d k a = as_operand (group p e q) f (omega arith) d k a
    reach (field e p n q) f low d k a = as_operand (field e p n q) f (omega arith) d k a
    reach (item e p x q) f low d k a = as_operand (item e p x q) f (omega arith) d k a
    reach (call e b) f low d k a = as_operand (call e b) f (omega arith) d k a
    reach (method e p n q b) f low d k a = as_operand (method e p n q b) f (omega arith) d k a
    reach (table p fs q) f low d k a = as_operand (table p fs q) f (omega arith) d k a
    reach (unary op p e) f low d k a = as_operand (unary op p e) f (omega arith) d k a

    pub level_read : (e : Exp) → Formed e → m ≤ level e → height e ≤ suc P.depth → (k : List Token) → Apart e (first k) → Below m (first k) → from_level P true m (spell e k) ≡ Ok (read_as e, k)
    level_read e f low d k a b = reach e f low d k a ∙ no_more_operators (read_as e) k b
