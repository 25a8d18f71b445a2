-- Declarations, assignments and `return` are read from what spells them, over complete readers of their parts.
use Rattle.std.proofs.Common.{◌≡◌, refl, sym, ◌∙◌, ap, ℕ, max, ◌≤◌, Bool, true, false, if◌then◌else◌, List, [], ◌∷◌, ◌++◌, Option, Some, None, Ok, arith, append_assoc, append-nil}
use Rattle.lua_tokens.specs.declared.place.Place.{Place}
use Rattle.lua_tokens.specs.declared.token.Token.{Token}
use Rattle.lua_tokens.specs.declared.token.Lexeme.{Lexeme}
use Rattle.lua_tokens.specs.declared.token.Lexeme.TheVariants as l
use Rattle.lua_tokens.specs.declared.sign.Sign.TheVariants as s
use Rattle.lua_tokens.specs.declared.word.Word.TheVariants as w
use Rattle.lua_tree.specs.declared.expr.Expr.{Expr}
use Rattle.lua_tree.specs.declared.stat.Stat.TheVariants as st
use Rattle.lua_grammar.specs.declared.measured.Measured.{Measured}
use Rattle.lua_grammar.specs.declared.measured.Ends.TheVariants as ends
use Rattle.lua_grammar.specs.Tokens.{token, sign, word, name}
use Rattle.lua_grammar.specs.Written.{Bytes, Attrib, no_attrib, const, Declared, end_declared, more_declared, Exp, call, method, atom, function, variable, group, field, item, table, unary, binary, Exps, none, some, Tail, end_tail, more, Body, Values, no_values, values}
use Rattle.lua_grammar.specs.Spelling.{spell_attrib, spell_declared, spell_semicolon, spell, spell_exps, spell_tail, spell_body, spell_values, first}
use Rattle.lua_grammar.specs.Formed.{IsVariable, IsCall, AreVariables, list_ends_in_prefix, values_end_in_prefix, Formed, FormedExps, FormedTail, FormedBody, FormedValues}
use Rattle.lua_grammar.specs.Erasure.{is_const, declared_of, expr_of, exps_of, tail_of, function_of, values_of}
use Rattle.lua_grammar.specs.Next.{is_sign, ends_return}
use Rattle.lua_grammar.specs.Input.{expect, and_then, on, before, pure, again, done, attribute_name}
use Rattle.lua_grammar.specs.Expressions.{measured, nothing, with_one, only, Parts, list, function_body}
use Rattle.lua_grammar.specs.Statements.{attrib, declared_turn, more_declared as declared_reader, values as values_reader, local_names, local_function, after_local, target, targets_turn, assigned, finished, returned, semicolon as semicolon_reader, after_return}
use Rattle.lua_grammar.proofs.Heights.{height, exps_height, tail_height, body_height, values_height}
use Rattle.lua_grammar.proofs.DepthLaws.{height_pos, body_pos}
use Rattle.lua_grammar.proofs.Loops.{many_done, many_again}
use Rattle.lua_grammar.proofs.Shorter.{declared_shrinks, targets_shrinks}
use Rattle.lua_grammar.proofs.Complete.{then_ok, in_room, if_so, Lacks, on_lacks, same_measured, NoSuffix, Parted, comma, semicolon as a_semicolon, equal, closes, parted_by}
use Rattle.lua_grammar.proofs.Starts.{Starts, starts, start_lexeme, start_facts}
use Rattle.lua_grammar.proofs.CompleteList.{BlockEnds, Around, list_read, body_read}
use Rattle.lua_grammar.proofs.CompleteExpr.{read_as}
use Rattle.lua_grammar.proofs.CompletePrefix.{ends_of, target_read}
use Rattle.lua_grammar.proofs.Follows.{Follows, end_follows}

module _ (P Q R : Parts) (h : Around P Q R) where
  -- ---- `local`

  no_attribute : (k : List Token) → Lacks (is_sign s.Less) (first k) → attrib P Q R k ≡ Ok (false, k)
  unfolding attrib
  no_attribute k n = on_lacks _ _ _ _ k n

  const_read : (p q r : Place) (k : List Token) → attrib P Q R (spell_attrib (const p q r) k) ≡ Ok (true, k)
  unfolding attrib on attribute_name expect
  const_read p q r k = refl

  attrib_read : (a : Attrib) (k : List Token) → Lacks (is_sign s.Less) (first k) → attrib P Q R (spell_attrib a k) ≡ Ok (is_const a, k)
  attrib_read no_attrib k n = no_attribute k n
  attrib_read (const p q r) k n = const_read p q r k

  declared_again : (found : List (Bytes × Bool × Place)) (p : Place) (n : Bytes) (q : Place) (k : List Token)
      → declared_turn P Q R found (sign s.Comma p ∷ name n q ∷ k) ≡ and_then (attrib P Q R k) (λ a. pure (again (found ++ (n, a, q) ∷ [])))
  unfolding on
  declared_again found p n q k = refl

  declared_ends : (found : List (Bytes × Bool × Place)) (k : List Token) → Lacks (is_sign s.Comma) (first k) → declared_turn P Q R found k ≡ Ok (done found, k)
  declared_ends found k n = on_lacks _ _ _ _ k n

  declared_less : (ds : Declared) (k : List Token) → Lacks (is_sign s.Less) (first k) → Lacks (is_sign s.Less) (first (spell_declared ds k))
  declared_less end_declared k n = n
  declared_less (more_declared p m q a ds) k n = refl

  declared_read : (ds : Declared) (found : List (Bytes × Bool × Place)) (k : List Token) → Lacks (is_sign s.Comma) (first k) → Lacks (is_sign s.Less) (first k)
      → declared_reader P Q R found (spell_declared ds k) ≡ Ok (found ++ declared_of ds, k)
  unfolding declared_reader
  declared_read end_declared found k c n =
      many_done (declared_turn P Q R) (declared_shrinks P Q R h.shorter h.shorter_below h.shorter_lower) found k k found (declared_ends found k c) ∙ ap (λ z. Ok (z, k)) (sym (append-nil found))
  declared_read (more_declared p m q a ds) found k c n =
      many_again (declared_turn P Q R) (declared_shrinks P Q R h.shorter h.shorter_below h.shorter_lower) found (found ++ (m, is_const a, q) ∷ []) (sign s.Comma p ∷ name m q ∷ spell_attrib a (spell_declared ds k)) (spell_declared ds k)
      (declared_again found p m q (spell_attrib a (spell_declared ds k)) ∙ then_ok _ _ _ _ _ (attrib_read a (spell_declared ds k) (declared_less ds k n)) refl)
      ∙ declared_read ds (found ++ (m, is_const a, q) ∷ []) k c n
      ∙ ap (λ z. Ok (z, k)) (append_assoc found ((m, is_const a, q) ∷ []) (declared_of ds))

  no_values_read : (k : List Token) → Lacks (is_sign s.Equal) (first k) → values_reader P Q R k ≡ Ok (nothing, k)
  unfolding values_reader
  no_values_read k n = on_lacks _ _ _ _ k n

  values_turn : (p : Place) (k : List Token) → 1 ≤ P.depth → values_reader P Q R (sign s.Equal p ∷ k) ≡ list P k
  unfolding values_reader on
  values_turn p k d = in_room _ _ _ _ _ d refl

  values_read : (vs : Values) (k : List Token) → FormedValues vs → values_height vs ≤ P.depth → Follows (values_end_in_prefix vs) (first k) → values_reader P Q R (spell_values vs k) ≡ Ok (measured (values_of vs) (values_height vs), k)
  values_read no_values k f d n = no_values_read k n.no_equal
  values_read (values p e es) k f d n =
      values_turn p (spell e (spell_tail es k)) (omega (arith, height_pos e, d)) ∙ list_read P h.shorter h.here e es f.0 f.1 d k n.parted n.no_comma

  values_comma : (vs : Values) (k : List Token) → Follows (values_end_in_prefix vs) (first k) → Lacks (is_sign s.Comma) (first (spell_values vs k))
  values_comma no_values k n = n.no_comma
  values_comma (values p e es) k n = refl

  values_less : (vs : Values) (k : List Token) → Follows (values_end_in_prefix vs) (first k) → Lacks (is_sign s.Less) (first (spell_values vs k))
  values_less no_values k n = n.no_less
  values_less (values p e es) k n = refl

  names_turn : (n : Bytes) (q : Place) (k : List Token) → after_local P Q R (name n q ∷ k) ≡ local_names P Q R n q k
  unfolding on after_local
  names_turn n q k = refl

  pub declare_read : (n : Bytes) (q : Place) (a : Attrib) (ds : Declared) (vs : Values) (k : List Token) → FormedValues vs → values_height vs ≤ P.depth → Follows (values_end_in_prefix vs) (first k)
      → after_local P Q R (name n q ∷ spell_attrib a (spell_declared ds (spell_values vs k))) ≡ Ok (measured (st.Local ((n, is_const a, q) ∷ declared_of ds) (values_of vs)) (values_height vs), k)
  unfolding local_names
  declare_read n q a ds vs k f d m =
      names_turn n q (spell_attrib a (spell_declared ds (spell_values vs k)))
      ∙ then_ok _ _ _ _ _ (attrib_read a (spell_declared ds (spell_values vs k)) (declared_less ds (spell_values vs k) (values_less vs k m)))
      (then_ok _ _ _ _ _ (declared_read ds ((n, is_const a, q) ∷ []) (spell_values vs k) (values_comma vs k m) (values_less vs k m)) (then_ok _ _ _ _ _ (values_read vs k f d m) refl))

  function_turn : (q : Place) (n : Bytes) (r : Place) (k : List Token) → 1 ≤ P.depth
      → after_local P Q R (word w.Function q ∷ name n r ∷ k) ≡ and_then (function_body P q [] k) (λ b. pure (measured (st.LocalFunction n r b.what) b.depth))
  unfolding on after_local local_function
  function_turn q n r k d = in_room _ _ _ _ _ d refl

  pub local_function_read : (q : Place) (n : Bytes) (r : Place) (b : Body) (k : List Token) → FormedBody b → body_height b ≤ P.depth
      → after_local P Q R (word w.Function q ∷ name n r ∷ spell_body b k) ≡ Ok (measured (st.LocalFunction n r (function_of q [] b)) (body_height b), k)
  local_function_read q n r b k f d = function_turn q n r (spell_body b k) (omega (arith, body_pos b, d)) ∙ then_ok _ _ _ _ _ (body_read P h.shorter h.here q [] b f d k) refl

  -- ---- assignments

  next_turn : (found : Measured (List Expr)) (p : Place) (k : List Token) → targets_turn P Q R found (sign s.Comma p ∷ k) ≡ and_then (target P Q R k) (λ e. pure (again (with_one found e)))
  unfolding on
  next_turn found p k = refl

  equal_turn : (found : Measured (List Expr)) (p : Place) (k : List Token)
      → targets_turn P Q R found (sign s.Equal p ∷ k) ≡ and_then (list P k) (λ es. pure (done (measured (st.Assign found.what es.what) (max found.depth es.depth))))
  unfolding on
  equal_turn found p k = refl

  pub before_targets : (ts : Tail) (p : Place) (k : List Token) → NoSuffix (first (spell_tail ts (sign s.Equal p ∷ k)))
  before_targets end_tail p k = closes equal
  before_targets (more q e es) p k = closes comma

  same_assign : (xs ys : List Expr) (e : Exp) (es : Tail) (m n : ℕ) → xs ≡ ys → m ≡ n → measured (st.Assign xs (expr_of e ∷ tail_of es)) m ≡ measured (st.Assign ys (expr_of e ∷ tail_of es)) n
  same_assign xs ys e es m n h i = same_measured _ _ _ _ (ap (λ z. st.Assign z (expr_of e ∷ tail_of es)) h) i

  targets_read : (ts : Tail) (found : Measured (List Expr)) (p : Place) (e : Exp) (es : Tail) (k : List Token) → FormedTail ts → AreVariables ts → tail_height ts ≤ P.depth → Formed e → FormedTail es
      → max (height e) (tail_height es) ≤ P.depth → Follows (list_ends_in_prefix e es) (first k)
      → assigned P Q R found (spell_tail ts (sign s.Equal p ∷ spell e (spell_tail es k)))
      ≡ Ok (measured (st.Assign (found.what ++ tail_of ts) (expr_of e ∷ tail_of es)) (max (max found.depth (tail_height ts)) (max (height e) (tail_height es))), k)
  unfolding assigned
  targets_read end_tail found p e es k ft vs dt fe fs d n =
      many_done (targets_turn P Q R) (targets_shrinks P Q R h.shorter h.shorter_below h.shorter_lower) found (sign s.Equal p ∷ spell e (spell_tail es k)) k
      (measured (st.Assign found.what (expr_of e ∷ tail_of es)) (max found.depth (max (height e) (tail_height es))))
      (equal_turn found p (spell e (spell_tail es k)) ∙ then_ok _ _ _ _ _ (list_read P h.shorter h.here e es fe fs d k n.parted n.no_comma) refl)
      ∙ ap (λ z. Ok (z, k)) (same_assign found.what (found.what ++ []) e es _ _ (sym (append-nil found.what)) (omega arith))
  targets_read (more q t ts) found p e es k ft vs dt fe fs d n =
      many_again (targets_turn P Q R) (targets_shrinks P Q R h.shorter h.shorter_below h.shorter_lower) found (with_one found (read_as t)) (sign s.Comma q ∷ spell t (spell_tail ts (sign s.Equal p ∷ spell e (spell_tail es k))))
      (spell_tail ts (sign s.Equal p ∷ spell e (spell_tail es k)))
      (next_turn found q (spell t (spell_tail ts (sign s.Equal p ∷ spell e (spell_tail es k))))
      ∙ then_ok _ _ _ _ _ (target_read P Q R h t vs.0 ft.0 (omega (arith, dt)) (spell_tail ts (sign s.Equal p ∷ spell e (spell_tail es k))) (before_targets ts p (spell e (spell_tail es k)))) refl)
      ∙ targets_read ts (with_one found (read_as t)) p e es k ft.1 vs.1 (omega (arith, dt)) fe fs d n
      ∙ ap (λ z. Ok (z, k)) (same_assign _ _ e es _ _ (append_assoc found.what (expr_of t ∷ []) (tail_of ts)) (omega arith))

  variable_ends : (t : Exp) → IsVariable t → ends_of t ≡ ends.Variable
  variable_ends (variable n p) i = refl
  variable_ends (field e p n q) i = refl
  variable_ends (item e p x q) i = refl
  variable_ends (atom a p) i = absurd i
  variable_ends (function p b) i = absurd i
  variable_ends (group p e q) i = absurd i
  variable_ends (call e a) i = absurd i
  variable_ends (method e p n q a) i = absurd i
  variable_ends (table p fs q) i = absurd i
  variable_ends (unary op p e) i = absurd i
  variable_ends (binary op p x y) i = absurd i

  call_ends_so : (t : Exp) → IsCall t → ends_of t ≡ ends.Call
  call_ends_so (call e a) i = refl
  call_ends_so (method e p n q a) i = refl
  call_ends_so (variable n p) i = absurd i
  call_ends_so (field e p n q) i = absurd i
  call_ends_so (item e p x q) i = absurd i
  call_ends_so (atom a p) i = absurd i
  call_ends_so (function p b) i = absurd i
  call_ends_so (group p e q) i = absurd i
  call_ends_so (table p fs q) i = absurd i
  call_ends_so (unary op p e) i = absurd i
  call_ends_so (binary op p x y) i = absurd i

  pub assign_read : (t : Exp) (ts : Tail) (p : Place) (e : Exp) (es : Tail) (k : List Token) → IsVariable t → FormedTail ts → AreVariables ts → Formed e → FormedTail es
      → max (max (height t) (tail_height ts)) (max (height e) (tail_height es)) ≤ P.depth → Follows (list_ends_in_prefix e es) (first k)
      → finished P Q R (ends_of t) (read_as t) (spell_tail ts (sign s.Equal p ∷ spell e (spell_tail es k)))
      ≡ Ok (measured (st.Assign (expr_of t ∷ tail_of ts) (expr_of e ∷ tail_of es)) (max (max (height t) (tail_height ts)) (max (height e) (tail_height es))), k)
  assign_read t ts p e es k i ft vs fe fs d n =
      ap (λ z. finished P Q R z (read_as t) (spell_tail ts (sign s.Equal p ∷ spell e (spell_tail es k)))) (variable_ends t i)
      ∙ targets_read ts (only (read_as t)) p e es k ft vs (omega (arith, d)) fe fs (omega (arith, d)) n
      ∙ ap (λ z. Ok (z, k)) (same_measured _ _ _ _ refl (omega arith))

  pub run_read : (e : Exp) (k : List Token) → IsCall e → finished P Q R (ends_of e) (read_as e) k ≡ Ok (measured (st.Call (expr_of e)) (height e), k)
  run_read e k i = ap (λ z. finished P Q R z (read_as e) k) (call_ends_so e i)

  -- ---- `return`

  ends_read : (x : Token) (k : List Token) → ends_return x.what ≡ true → returned P Q R (x ∷ k) ≡ Ok (nothing, x ∷ k)
  unfolding returned before
  ends_read x k h = if_so _ _ _ _ h refl

  gives_read : (x : Token) (k : List Token) → ends_return x.what ≡ false → returned P Q R (x ∷ k) ≡ list P (x ∷ k)
  unfolding returned before
  gives_read x k h = ap (λ c. if c then Ok (nothing, x ∷ k) else list P (x ∷ k)) h

  block_returns : (x : Lexeme) → BlockEnds (Some x) → ends_return x ≡ true
  block_returns l.End b = refl
  block_returns (l.Word w.End) b = refl
  block_returns (l.Word w.Else) b = refl
  block_returns (l.Word w.Elseif) b = refl
  block_returns (l.Word w.Until) b = refl
  block_returns _ b = absurd b

  nothing_read : (m : Option Place) (k : List Token) → BlockEnds (first k) → returned P Q R (spell_semicolon m k) ≡ Ok (nothing, spell_semicolon m k)
  nothing_read (Some p) k b = ends_read (sign s.Semicolon p) k refl
  nothing_read None [] b = absurd b
  nothing_read None (x ∷ k) b = ends_read x k (block_returns x.what b)

  some_returned : (e : Exp) (k : List Token) → returned P Q R (spell e k) ≡ list P (spell e k)
  some_returned e k =
      let b : Starts (spell e k) = starts e k in
      ap (returned P Q R) b.is ∙ gives_read (token (start_lexeme b.start) b.place) b.rest (start_facts b.start).goes_on ∙ ap (list P) (sym b.is)

  after_values : (prefix : Bool) (m : Option Place) (k : List Token) → BlockEnds (first k) → Parted prefix (first (spell_semicolon m k)) × Lacks (is_sign s.Comma) (first (spell_semicolon m k))
  after_values prefix (Some p) k b = (parted_by prefix a_semicolon, refl)
  after_values prefix None k b = let f : Follows prefix (first k) = end_follows prefix (first k) b in (f.parted, f.no_comma)

  returned_read : (es : Exps) (m : Option Place) (k : List Token) → FormedExps es → exps_height es ≤ P.depth → BlockEnds (first k)
      → returned P Q R (spell_exps es (spell_semicolon m k)) ≡ Ok (measured (exps_of es) (exps_height es), spell_semicolon m k)
  returned_read none m k f d b = nothing_read m k b
  returned_read (some e es) m k f d b =
      let a = after_values (list_ends_in_prefix e es) m k b in
      some_returned e (spell_tail es (spell_semicolon m k)) ∙ list_read P h.shorter h.here e es f.0 f.1 d (spell_semicolon m k) a.0 a.1

  no_semicolon : (k : List Token) → Lacks (is_sign s.Semicolon) (first k) → semicolon_reader P Q R k ≡ Ok (tt, k)
  unfolding semicolon_reader
  no_semicolon k n = on_lacks _ _ _ _ k n

  a_semicolon_read : (p : Place) (k : List Token) → semicolon_reader P Q R (sign s.Semicolon p ∷ k) ≡ Ok (tt, k)
  unfolding semicolon_reader on
  a_semicolon_read p k = refl

  block_lacks : (o : Option Lexeme) → BlockEnds o → Lacks (is_sign s.Semicolon) o
  block_lacks (Some l.End) b = refl
  block_lacks (Some (l.Word w.End)) b = refl
  block_lacks (Some (l.Word w.Else)) b = refl
  block_lacks (Some (l.Word w.Elseif)) b = refl
  block_lacks (Some (l.Word w.Until)) b = refl
  block_lacks _ b = absurd b

  semicolon_read : (m : Option Place) (k : List Token) → BlockEnds (first k) → semicolon_reader P Q R (spell_semicolon m k) ≡ Ok (tt, k)
  semicolon_read (Some p) k b = a_semicolon_read p k
  semicolon_read None k b = no_semicolon k (block_lacks (first k) b)

  pub return_read : (es : Exps) (m : Option Place) (k : List Token) → FormedExps es → exps_height es ≤ P.depth → BlockEnds (first k)
      → after_return P Q R (spell_exps es (spell_semicolon m k)) ≡ Ok (measured (st.Return (exps_of es)) (exps_height es), k)
  unfolding after_return
  return_read es m k f d b = then_ok _ _ _ _ _ (returned_read es m k f d b) (then_ok _ _ _ _ _ (semicolon_read m k b) refl)
