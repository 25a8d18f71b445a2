-- What begins an assignment, a call or a `function` statement is read from what spells it.
use Rattle.std.proofs.Common.{◌≡◌, refl, ◌∙◌, ap, ℕ, ◌+◌, max, ◌≤◌, List, [], ◌∷◌, Ok, arith}
use Rattle.lua_tokens.specs.declared.place.Place.{Place}
use Rattle.lua_tokens.specs.declared.token.Token.{Token}
use Rattle.lua_tokens.specs.declared.sign.Sign.TheVariants as s
use Rattle.lua_tree.specs.declared.expr.Expr.{Expr}
use Rattle.lua_tree.specs.declared.expr.ExprKind.TheVariants as kind
use Rattle.lua_tree.specs.declared.stat.Stat.{Stat}
use Rattle.lua_tree.specs.declared.stat.Stat.TheVariants as st
use Rattle.lua_grammar.specs.declared.measured.Measured.{Measured}
use Rattle.lua_grammar.specs.declared.measured.Prefix.{Prefix}
use Rattle.lua_grammar.specs.declared.measured.Ends.{Ends}
use Rattle.lua_grammar.specs.declared.measured.Ends.TheVariants as ends
use Rattle.lua_grammar.specs.Tokens.{sign, name, self_name}
use Rattle.lua_grammar.specs.Written.{Bytes, Colon, no_colon, colon, Exp, atom, function, variable, group, field, item, call, method, table, unary, binary, Body, body}
use Rattle.lua_grammar.specs.Spelling.{spell, spell_args, spell_colon, spell_body, first}
use Rattle.lua_grammar.specs.Formed.{IsPrefix, IsVariable, IsPath, Formed, FormedBody}
use Rattle.lua_grammar.specs.Erasure.{node, target_of, self_of, expr_of, function_of}
use Rattle.lua_grammar.specs.Next.{is_sign}
use Rattle.lua_grammar.specs.Input.{Outcome, Parser, and_then, on, pure, Turn, again, done, many}
use Rattle.lua_grammar.specs.Expressions.{measured, name_leaf, dotted, with_one, Parts, group as group_reader}
use Rattle.lua_grammar.specs.Statements.{as_variable, as_call, as_group, path_turn, path, defined, after_path, after_function, target_turn, needs_variable, target_from, target, finished, prefix_turn, prefixes, begun, after_open, stat_turn}
use Rattle.lua_grammar.proofs.Heights.{target_height, height, body_height}
use Rattle.lua_grammar.proofs.DepthLaws.{height_pos}
use Rattle.lua_grammar.proofs.Loops.{many_done, many_again}
use Rattle.lua_grammar.proofs.Shorter.{prefix_shrinks, target_shrinks, path_shrinks}
use Rattle.lua_grammar.proofs.Complete.{then_ok, in_room, Lacks, on_lacks, NoSuffix}
use Rattle.lua_grammar.proofs.CompleteList.{Around, body_read}
use Rattle.lua_grammar.proofs.CompleteExpr.{read_as, field_extends, item_extends, call_extends, method_extends, spine_ends, group_read}

-- what kind of thing an expression that a name or a parenthesis begins is
abbrev pub ends_of : Exp → Ends
ends_of (group p e q) = ends.Group
ends_of (call e a) = ends.Call
ends_of (method e p n q a) = ends.Call
ends_of _ = ends.Variable

abbrev pub prefix_of : Exp → Prefix
prefix_of e = record { expr = read_as e; ends = ends_of e }

-- something goes on with a group that begins a statement
abbrev pub under_group : Exp → ℕ
under_group (group p e q) = 1
under_group _ = 0

group_low : (e : Exp) → under_group e ≤ 1
group_low (atom a p) = omega arith
group_low (function p b) = omega arith
group_low (variable n p) = omega arith
group_low (group p e q) = omega arith
group_low (field e p n q) = omega arith
group_low (item e p x q) = omega arith
group_low (call e a) = omega arith
group_low (method e p n q a) = omega arith
group_low (table p fs q) = omega arith
group_low (unary op p e) = omega arith
group_low (binary op p x y) = omega arith

-- in a target an index lies over what is no variable
abbrev under_index : Exp → ℕ
under_index (group p e q) = 1
under_index (call e a) = 1
under_index (method e p n q a) = 1
under_index _ = 0

index_low : (e : Exp) → under_index e ≤ 1
index_low (atom a p) = omega arith
index_low (function p b) = omega arith
index_low (variable n p) = omega arith
index_low (group p e q) = omega arith
index_low (field e p n q) = omega arith
index_low (item e p x q) = omega arith
index_low (call e a) = omega arith
index_low (method e p n q a) = omega arith
index_low (table p fs q) = omega arith
index_low (unary op p e) = omega arith
index_low (binary op p x y) = omega arith

pub variable_prefix : (e : Exp) → IsVariable e → IsPrefix e
variable_prefix (variable n p) i = tt
variable_prefix (field e p n q) i = tt
variable_prefix (item e p x q) i = tt
variable_prefix (atom a p) i = absurd i
variable_prefix (function p b) i = absurd i
variable_prefix (group p e q) i = absurd i
variable_prefix (call e a) i = absurd i
variable_prefix (method e p n q a) i = absurd i
variable_prefix (table p fs q) i = absurd i
variable_prefix (unary op p e) i = absurd i
variable_prefix (binary op p x y) i = absurd i

target_low : (n : ℕ) (x : Colon) → n ≤ target_height n x
target_low n no_colon = omega arith
target_low n (colon p m q) = omega arith

module _ (P Q R : Parts) (h : Around P Q R) where
  -- ---- what begins a statement

  -- what becomes of a prefix
  abbrev pub begun_by : Measured (List Stat) → Outcome Prefix → Outcome (Turn (Measured (List Stat)) (Measured (List Stat)))
  begun_by found r = and_then (and_then r (λ y. finished P Q R y.ends y.expr)) (λ x. pure (again (with_one found x)))

  name_begins : (found : Measured (List Stat)) (n : Bytes) (p : Place) (k : List Token) → 1 ≤ P.depth → stat_turn P Q R found (name n p ∷ k) ≡ begun_by found (prefixes P Q R (as_variable (name_leaf n p)) k)
  unfolding on begun
  name_begins found n p k d = in_room _ _ _ _ _ d refl

  open_begins : (found : Measured (List Stat)) (p : Place) (k : List Token) → 3 ≤ P.depth
      → stat_turn P Q R found (sign s.OpenParen p ∷ k) ≡ and_then (and_then (group_reader R p k) (λ e. begun P Q R (as_group e))) (λ x. pure (again (with_one found x)))
  unfolding on after_open
  open_begins found p k d = in_room _ _ _ _ _ d refl

  group_begins : (found : Measured (List Stat)) (p : Place) (e : Exp) (q : Place) (k : List Token) → Formed e → height e + 2 ≤ P.depth
      → stat_turn P Q R found (sign s.OpenParen p ∷ spell e (sign s.CloseParen q ∷ k)) ≡ begun_by found (prefixes P Q R (prefix_of (group p e q)) k)
  unfolding begun
  group_begins found p e q k f d =
      open_begins found p (spell e (sign s.CloseParen q ∷ k)) (omega (arith, d, height_pos e))
      ∙ ap (λ r. and_then (and_then r (λ e. begun P Q R (as_group e))) (λ x. pure (again (with_one found x)))) (group_read R h.shorter_lower h.lower p e q k f (omega (arith, d)))

  one_more : (x y : Prefix) (ts k : List Token) → prefix_turn P Q R x ts ≡ Ok (again y, k) → prefixes P Q R x ts ≡ prefixes P Q R y k
  unfolding prefixes
  one_more x y ts k e = many_again (prefix_turn P Q R) (prefix_shrinks P Q R h.shorter h.shorter_below h.shorter_lower) x y ts k e

  pub no_more_prefixes : (x : Prefix) (k : List Token) → NoSuffix (first k) → prefixes P Q R x k ≡ Ok (x, k)
  unfolding prefixes
  no_more_prefixes x k n =
      many_done (prefix_turn P Q R) (prefix_shrinks P Q R h.shorter h.shorter_below h.shorter_lower) x k k x (spine_ends Q Q h.shorter_below h.shorter_below h.below h.below (λ e. again (as_variable e)) (λ e. again (as_call e)) (pure (done x)) x.expr k n)

  pub begin_read : (found : Measured (List Stat)) (e : Exp) → IsPrefix e → Formed e → height e + under_group e ≤ P.depth → (k : List Token)
      → stat_turn P Q R found (spell e k) ≡ begun_by found (prefixes P Q R (prefix_of e) k)
  begin_read found (variable n p) i f d k = name_begins found n p k (omega (arith, d))
  begin_read found (group p e q) i f d k = group_begins found p e q k f (omega (arith, d))
  begin_read found (field e p n q) i f d k =
      begin_read found e f.1 f.0 (omega (arith, d, group_low e)) (sign s.Dot p ∷ name n q ∷ k)
      ∙ ap (begun_by found) (one_more (prefix_of e) (prefix_of (field e p n q)) (sign s.Dot p ∷ name n q ∷ k) k
      (field_extends Q Q h.shorter_below h.shorter_below h.below h.below (λ e. again (as_variable e)) (λ e. again (as_call e)) (pure (done (prefix_of e))) e p n q k (omega (arith, d, h.near))))
  begin_read found (item e p x q) i f d k =
      begin_read found e f.1 f.0 (omega (arith, d, group_low e)) (sign s.OpenBracket p ∷ spell x (sign s.CloseBracket q ∷ k))
      ∙ ap (begun_by found) (one_more (prefix_of e) (prefix_of (item e p x q)) (sign s.OpenBracket p ∷ spell x (sign s.CloseBracket q ∷ k)) k
      (item_extends Q Q h.shorter_below h.shorter_below h.below h.below (λ e. again (as_variable e)) (λ e. again (as_call e)) (pure (done (prefix_of e))) e p x q k (omega (arith, d, h.near)) f.2 (omega (arith, d, h.near))))
  begin_read found (call e a) i f d k =
      begin_read found e f.1 f.0 (omega (arith, d, group_low e)) (spell_args a k)
      ∙ ap (begun_by found) (one_more (prefix_of e) (prefix_of (call e a)) (spell_args a k) k
      (call_extends Q Q h.shorter_below h.shorter_below h.below h.below (λ e. again (as_variable e)) (λ e. again (as_call e)) (pure (done (prefix_of e))) e a k (omega (arith, d, h.near)) f.2 (omega (arith, d, h.near))))
  begin_read found (method e p n q a) i f d k =
      begin_read found e f.1 f.0 (omega (arith, d, group_low e)) (sign s.Colon p ∷ name n q ∷ spell_args a k)
      ∙ ap (begun_by found) (one_more (prefix_of e) (prefix_of (method e p n q a)) (sign s.Colon p ∷ name n q ∷ spell_args a k) k
      (method_extends Q Q h.shorter_below h.shorter_below h.below h.below (λ e. again (as_variable e)) (λ e. again (as_call e)) (pure (done (prefix_of e))) e p n q a k (omega (arith, d, h.near)) f.2 (omega (arith, d, h.near))))
  begin_read found (atom a p) i f d k = absurd i
  begin_read found (function p b) i f d k = absurd i
  begin_read found (table p fs q) i f d k = absurd i
  begin_read found (unary op p e) i f d k = absurd i
  begin_read found (binary op p x y) i f d k = absurd i

  -- ---- targets after the first

  abbrev target_by : Outcome Prefix → Outcome (Measured Expr)
  target_by r = and_then r (λ y. needs_variable P Q R y.ends y.expr)

  abbrev targets : Prefix → Parser Prefix
  targets x = many (target_turn P Q R) x

  name_target : (n : Bytes) (p : Place) (k : List Token) → target P Q R (name n p ∷ k) ≡ target_by (targets (as_variable (name_leaf n p)) k)
  unfolding on target target_from
  name_target n p k = refl

  open_target : (p : Place) (k : List Token) → 3 ≤ P.depth → target P Q R (sign s.OpenParen p ∷ k) ≡ and_then (group_reader R p k) (λ e. target_from P Q R (as_group e))
  unfolding on target
  open_target p k d = in_room _ _ _ _ _ d refl

  group_target : (p : Place) (e : Exp) (q : Place) (k : List Token) → Formed e → height e + 2 ≤ P.depth
      → target P Q R (sign s.OpenParen p ∷ spell e (sign s.CloseParen q ∷ k)) ≡ target_by (targets (prefix_of (group p e q)) k)
  unfolding target_from
  group_target p e q k f d =
      open_target p (spell e (sign s.CloseParen q ∷ k)) (omega (arith, d, height_pos e))
      ∙ ap (λ r. and_then r (λ e. target_from P Q R (as_group e))) (group_read R h.shorter_lower h.lower p e q k f (omega (arith, d)))

  next_target : (x y : Prefix) (ts k : List Token) → target_turn P Q R x ts ≡ Ok (again y, k) → targets x ts ≡ targets y k
  next_target x y ts k e = many_again (target_turn P Q R) (target_shrinks P Q R h.shorter h.shorter_below h.shorter_lower) x y ts k e

  target_spine : (e : Exp) → IsPrefix e → Formed e → height e + under_index e ≤ P.depth → (k : List Token) → target P Q R (spell e k) ≡ target_by (targets (prefix_of e) k)
  target_spine (variable n p) i f d k = name_target n p k
  target_spine (group p e q) i f d k = group_target p e q k f (omega (arith, d))
  target_spine (field e p n q) i f d k =
      target_spine e f.1 f.0 (omega (arith, d, index_low e)) (sign s.Dot p ∷ name n q ∷ k)
      ∙ ap target_by (next_target (prefix_of e) (prefix_of (field e p n q)) (sign s.Dot p ∷ name n q ∷ k) k
      (field_extends Q R h.shorter_below h.shorter_lower h.below h.lower (λ e. again (as_variable e)) (λ e. again (as_call e)) (pure (done (prefix_of e))) e p n q k (omega (arith, d, h.near))))
  target_spine (item e p x q) i f d k =
      target_spine e f.1 f.0 (omega (arith, d, index_low e)) (sign s.OpenBracket p ∷ spell x (sign s.CloseBracket q ∷ k))
      ∙ ap target_by (next_target (prefix_of e) (prefix_of (item e p x q)) (sign s.OpenBracket p ∷ spell x (sign s.CloseBracket q ∷ k)) k
      (item_extends Q R h.shorter_below h.shorter_lower h.below h.lower (λ e. again (as_variable e)) (λ e. again (as_call e)) (pure (done (prefix_of e))) e p x q k (omega (arith, d, h.near)) f.2 (omega (arith, d, h.near))))
  target_spine (call e a) i f d k =
      target_spine e f.1 f.0 (omega (arith, d, index_low e)) (spell_args a k)
      ∙ ap target_by (next_target (prefix_of e) (prefix_of (call e a)) (spell_args a k) k
      (call_extends Q R h.shorter_below h.shorter_lower h.below h.lower (λ e. again (as_variable e)) (λ e. again (as_call e)) (pure (done (prefix_of e))) e a k (omega (arith, d, h.far)) f.2 (omega (arith, d, h.far))))
  target_spine (method e p n q a) i f d k =
      target_spine e f.1 f.0 (omega (arith, d, index_low e)) (sign s.Colon p ∷ name n q ∷ spell_args a k)
      ∙ ap target_by (next_target (prefix_of e) (prefix_of (method e p n q a)) (sign s.Colon p ∷ name n q ∷ spell_args a k) k
      (method_extends Q R h.shorter_below h.shorter_lower h.below h.lower (λ e. again (as_variable e)) (λ e. again (as_call e)) (pure (done (prefix_of e))) e p n q a k (omega (arith, d, h.far)) f.2 (omega (arith, d, h.far))))
  target_spine (atom a p) i f d k = absurd i
  target_spine (function p b) i f d k = absurd i
  target_spine (table p fs q) i f d k = absurd i
  target_spine (unary op p e) i f d k = absurd i
  target_spine (binary op p x y) i f d k = absurd i

  no_more_targets : (x : Prefix) (k : List Token) → NoSuffix (first k) → targets x k ≡ Ok (x, k)
  no_more_targets x k n =
      many_done (target_turn P Q R) (target_shrinks P Q R h.shorter h.shorter_below h.shorter_lower) x k k x (spine_ends Q R h.shorter_below h.shorter_lower h.below h.lower (λ e. again (as_variable e)) (λ e. again (as_call e)) (pure (done x)) x.expr k n)

  needs_read : (e : Exp) → IsVariable e → (k : List Token) → target_by (Ok (prefix_of e, k)) ≡ Ok (read_as e, k)
  needs_read (variable n p) i k = refl
  needs_read (field e p n q) i k = refl
  needs_read (item e p x q) i k = refl
  needs_read (atom a p) i k = absurd i
  needs_read (function p b) i k = absurd i
  needs_read (group p e q) i k = absurd i
  needs_read (call e a) i k = absurd i
  needs_read (method e p n q a) i k = absurd i
  needs_read (table p fs q) i k = absurd i
  needs_read (unary op p e) i k = absurd i
  needs_read (binary op p x y) i k = absurd i

  variable_alone : (e : Exp) → IsVariable e → height e ≤ P.depth → height e + under_index e ≤ P.depth
  variable_alone (variable n p) i d = omega (arith, d)
  variable_alone (field e p n q) i d = omega (arith, d)
  variable_alone (item e p x q) i d = omega (arith, d)
  variable_alone (atom a p) i d = absurd i
  variable_alone (function p b) i d = absurd i
  variable_alone (group p e q) i d = absurd i
  variable_alone (call e a) i d = absurd i
  variable_alone (method e p n q a) i d = absurd i
  variable_alone (table p fs q) i d = absurd i
  variable_alone (unary op p e) i d = absurd i
  variable_alone (binary op p x y) i d = absurd i

  pub target_read : (e : Exp) → IsVariable e → Formed e → height e ≤ P.depth → (k : List Token) → NoSuffix (first k) → target P Q R (spell e k) ≡ Ok (read_as e, k)
  target_read e i f d k n =
      target_spine e (variable_prefix e i) f (variable_alone e i d) k ∙ ap target_by (no_more_targets (prefix_of e) k n) ∙ needs_read e i k

  -- ---- `function` statements

  abbrev pub path_by : Place → Outcome (Measured Expr) → Outcome (Measured Stat)
  path_by at r = and_then r (after_path P Q R at)

  path_begins : (at : Place) (n : Bytes) (p : Place) (k : List Token) → after_function P Q R at (name n p ∷ k) ≡ path_by at (path P Q R (name_leaf n p) k)
  unfolding on after_function
  path_begins at n p k = refl

  path_dot : (e : Exp) (p : Place) (n : Bytes) (q : Place) (k : List Token) → height e ≤ Q.depth → path_turn P Q R (read_as e) (sign s.Dot p ∷ name n q ∷ k) ≡ Ok (again (read_as (field e p n q)), k)
  unfolding on
  path_dot e p n q k d = in_room _ _ _ _ _ d refl

  path_more : (x y : Measured Expr) (ts k : List Token) → path_turn P Q R x ts ≡ Ok (again y, k) → path P Q R x ts ≡ path P Q R y k
  unfolding path
  path_more x y ts k e = many_again (path_turn P Q R) (path_shrinks P Q R h.shorter h.shorter_below h.shorter_lower) x y ts k e

  path_ends : (x : Measured Expr) (k : List Token) → Lacks (is_sign s.Dot) (first k) → path P Q R x k ≡ Ok (x, k)
  unfolding path
  path_ends x k n = many_done (path_turn P Q R) (path_shrinks P Q R h.shorter h.shorter_below h.shorter_lower) x k k x (on_lacks _ _ _ _ k n)

  path_read : (at : Place) (e : Exp) → IsPath e → height e ≤ P.depth → (k : List Token) → after_function P Q R at (spell e k) ≡ path_by at (path P Q R (read_as e) k)
  path_read at (variable n p) i d k = path_begins at n p k
  path_read at (field e p n q) i d k =
      path_read at e i (omega (arith, d)) (sign s.Dot p ∷ name n q ∷ k) ∙ ap (path_by at) (path_more (read_as e) (read_as (field e p n q)) (sign s.Dot p ∷ name n q ∷ k) k (path_dot e p n q k (omega (arith, d, h.near))))
  path_read at (atom a p) i d k = absurd i
  path_read at (function p b) i d k = absurd i
  path_read at (group p e q) i d k = absurd i
  path_read at (item e p x q) i d k = absurd i
  path_read at (call e a) i d k = absurd i
  path_read at (method e p n q a) i d k = absurd i
  path_read at (table p fs q) i d k = absurd i
  path_read at (unary op p e) i d k = absurd i
  path_read at (binary op p x y) i d k = absurd i

  -- what a `function` statement assigns
  abbrev defines : Place → Expr → ℕ → List (Bytes × Place) → Body → Measured Stat
  defines at e n before b = measured (st.Assign (e ∷ []) (node (kind.Function (function_of at before b)) at ∷ [])) (max n (body_height b + 1))

  defined_read : (at : Place) (e : Measured Expr) (before : List (Bytes × Place)) (b : Body) → FormedBody b → body_height b ≤ Q.depth → (k : List Token)
      → defined P Q R at e before (spell_body b k) ≡ Ok (defines at e.what e.depth before b, k)
  unfolding defined
  defined_read at e before b f d k = then_ok _ _ _ _ _ (body_read Q h.shorter_below h.below at before b f d k) refl

  colon_turn : (at : Place) (e : Measured Expr) (p : Place) (n : Bytes) (q : Place) (k : List Token) → e.depth ≤ Q.depth
      → after_path P Q R at e (sign s.Colon p ∷ name n q ∷ k) ≡ defined P Q R at (dotted e p n q) ((self_name, q) ∷ []) k
  unfolding on after_path
  colon_turn at e p n q k d = in_room _ _ _ _ _ d refl

  no_colon_turn : (at : Place) (e : Measured Expr) (b : Body) (k : List Token) → after_path P Q R at e (spell_body b k) ≡ defined P Q R at e [] (spell_body b k)
  unfolding on after_path
  no_colon_turn at e (body p ps q ss r) k = refl

  after_path_read : (at : Place) (e : Exp) (x : Colon) (b : Body) → FormedBody b → max (target_height (height e) x) (body_height b + 1) ≤ P.depth → (k : List Token)
      → after_path P Q R at (read_as e) (spell_colon x (spell_body b k)) ≡ Ok (defines at (target_of (expr_of e) x) (target_height (height e) x) (self_of x) b, k)
  after_path_read at e no_colon b f d k = no_colon_turn at (read_as e) b k ∙ defined_read at (read_as e) [] b f (omega (arith, d, h.near)) k
  after_path_read at e (colon p n q) b f d k =
      colon_turn at (read_as e) p n q (spell_body b k) (omega (arith, d, h.near)) ∙ defined_read at (dotted (read_as e) p n q) ((self_name, q) ∷ []) b f (omega (arith, d, h.near)) k

  colon_lacks : (x : Colon) (b : Body) (k : List Token) → Lacks (is_sign s.Dot) (first (spell_colon x (spell_body b k)))
  colon_lacks no_colon (body p ps q ss r) k = refl
  colon_lacks (colon p n q) b k = refl

  pub define_read : (at : Place) (e : Exp) (x : Colon) (b : Body) → IsPath e → FormedBody b → max (target_height (height e) x) (body_height b + 1) ≤ P.depth → (k : List Token)
      → after_function P Q R at (spell e (spell_colon x (spell_body b k))) ≡ Ok (defines at (target_of (expr_of e) x) (target_height (height e) x) (self_of x) b, k)
  define_read at e x b i f d k =
      path_read at e i (omega (arith, d, target_low (height e) x)) (spell_colon x (spell_body b k))
      ∙ ap (path_by at) (path_ends (read_as e) (spell_colon x (spell_body b k)) (colon_lacks x b k))
      ∙ after_path_read at e x b f d k
