-- More room changes no answer of the readers of statements but a refusal for depth.
use Rattle.std.proofs.Common.{◌≡◌, refl, ℕ, ◌-◌, nat_le, ◌≤◌, Bool, true, List, [], arith}
use Rattle.std.proofs.lemmas.Bool.{leb-true}
use Rattle.lua_tokens.specs.declared.place.Place.{Place}
use Rattle.lua_tokens.specs.declared.token.Token.{Token}
use Rattle.lua_tree.specs.declared.expr.Expr.{Expr}
use Rattle.lua_tree.specs.declared.stat.Stat.{Stat}
use Rattle.lua_tree.specs.declared.stat.Branch.{Branch}
use Rattle.lua_grammar.specs.declared.measured.Measured.{Measured}
use Rattle.lua_grammar.specs.declared.measured.Prefix.{Prefix}
use Rattle.lua_grammar.specs.declared.measured.Ends.{Ends}
use Rattle.lua_grammar.specs.declared.measured.Ends.TheVariants as ends
use Rattle.lua_grammar.specs.Written.{Bytes}
use Rattle.lua_grammar.specs.Input.{pure, again, done}
use Rattle.lua_grammar.specs.Expressions.{Parts, name_leaf, list, on_call, group, nothing}
use Rattle.lua_grammar.specs.Statements.{as_variable, as_call, as_group, after_do, after_while, after_repeat, condition, after_else, arm_turn, more_arms, after_if, for_step, for_numbers, name_turn, for_names, for_each, after_for, attrib, declared_turn, more_declared, values, local_names, local_function, after_local, path_turn, path, defined, after_path, after_function, target_turn, needs_variable, target_from, target, targets_turn, assigned, finished, prefix_turn, prefixes, begun, after_open, after_goto, after_colons, returned, semicolon, after_return, stat_turn, more_stats, block}
use Rattle.lua_grammar.proofs.Shorter.{arm_shrinks, name_shrinks, declared_shrinks, path_shrinks, target_shrinks, targets_shrinks, prefix_shrinks, stat_shrinks}
use Rattle.lua_grammar.proofs.LocalStat.{arm_turn_local, name_turn_local, declared_turn_local, path_turn_local, target_turn_local, targets_turn_local, prefix_turn_local, stat_turn_local, from_local, begun_local}
use Rattle.lua_grammar.proofs.Kept.{Fam, when, pure_f, refuse_f, bind_f, expect_f, attribute_fam, before_fam, on_room, on_true, name_room, name_true, Yields, many_fam, anything, bind_where}
use Rattle.lua_grammar.proofs.KeptExpr.{FamParts, room_grows, sub, list_fam, index_fam, call_fam, body_fam, group_fam, group_deep, AtLeastOne, index_yields, call_yields}

module _ (d : ℕ) (P Q R : ℕ → Parts) (hp : FamParts d P) (hq : FamParts d Q) (hr : FamParts d R) (below : (Q d).depth ≡ (P d).depth - 1) where
  abbrev Room : Type 0
  Room = 1 ≤ (P d).depth

  do_fam : Fam Room d (λ n. after_do (P n) (Q n) (R n))
  unfolding after_do
  do_fam = bind_f _ _ (λ b. bind_f _ _ (λ _. pure_f _) (expect_f _ (λ _. refl) refl)) hp.block

  while_fam : Fam Room d (λ n. after_while (P n) (Q n) (R n))
  unfolding after_while
  while_fam = bind_f _ _ (λ e. bind_f _ _ (λ _. bind_f _ _ (λ b. bind_f _ _ (λ _. pure_f _) (expect_f _ (λ _. refl) refl)) hp.block) (expect_f _ (λ _. refl) refl)) (sub d P hp 0)

  repeat_fam : Fam Room d (λ n. after_repeat (P n) (Q n) (R n))
  unfolding after_repeat
  repeat_fam = bind_f _ _ (λ b. bind_f _ _ (λ _. bind_f _ _ (λ e. pure_f _) (sub d P hp 0)) (expect_f _ (λ _. refl) refl)) hp.block

  condition_fam : Fam Room d (λ n. condition (P n) (Q n) (R n))
  unfolding condition
  condition_fam = bind_f _ _ (λ e. bind_f _ _ (λ _. bind_f _ _ (λ b. pure_f _) hp.block) (expect_f _ (λ _. refl) refl)) (sub d P hp 0)

  else_fam : (found : Measured (List Branch)) → Fam Room d (λ n. after_else (P n) (Q n) (R n) found)
  unfolding after_else
  else_fam found = bind_f _ _ (λ b. bind_f _ _ (λ _. pure_f _) (expect_f _ (λ _. refl) refl)) hp.block

  arm_fam : (found : Measured (List Branch)) → Fam Room d (λ n. arm_turn (P n) (Q n) (R n) found)
  arm_fam found =
      on_true _ _ _ (λ _. refl) refl (λ _ _. bind_f _ _ (λ x. pure_f _) condition_fam)
      (on_true _ _ _ (λ _. refl) refl (λ _ _. bind_f _ _ (λ x. pure_f _) (else_fam found)) (on_true _ _ _ (λ _. refl) refl (λ _ _. pure_f _) (refuse_f _)))

  if_fam : Fam Room d (λ n. after_if (P n) (Q n) (R n))
  unfolding after_if more_arms
  if_fam =
      bind_f _ _ (λ x. many_fam Room d (λ n. arm_turn (P n) (Q n) (R n)) (λ n. arm_shrinks (P n) (Q n) (R n) (hp.shorter n) (hq.shorter n) (hr.shorter n)) (λ _. Unit {0})
      (λ n. arm_turn_local (P n) (Q n) (R n) (hp.shorter n) (hq.shorter n) (hr.shorter n) (hp.local n) (hq.local n) (hr.local n)) (λ found _. arm_fam found) (λ s ts _. anything _) _ tt) condition_fam

  step_fam : {C : Type 0} → Fam C d (λ n. for_step (P n) (Q n) (R n))
  unfolding for_step
  step_fam = on_true _ _ _ (λ _. refl) refl (λ _ _. bind_f _ _ (λ e. pure_f _) (sub d P hp 0)) (pure_f _)

  numbers_fam : (n : Bytes) (p : Place) → Fam Room d (λ k. for_numbers (P k) (Q k) (R k) n p)
  unfolding for_numbers
  numbers_fam n p =
      bind_f _ _ (λ from. bind_f _ _ (λ _. bind_f _ _ (λ to. bind_f _ _ (λ by. bind_f _ _ (λ _. bind_f _ _ (λ b. bind_f _ _ (λ _. pure_f _)
      (expect_f _ (λ _. refl) refl)) hp.block) (expect_f _ (λ _. refl) refl)) step_fam) (sub d P hp 0)) (expect_f _ (λ _. refl) refl)) (sub d P hp 0)

  each_fam : (n : Bytes) (p : Place) → Fam Room d (λ k. for_each (P k) (Q k) (R k) n p)
  unfolding for_each for_names
  each_fam n p =
      bind_f _ _ (λ ns. bind_f _ _ (λ es. bind_f _ _ (λ _. bind_f _ _ (λ b. bind_f _ _ (λ _. pure_f _) (expect_f _ (λ _. refl) refl)) hp.block) (expect_f _ (λ _. refl) refl)) (list_fam d P hp))
      (many_fam Room d (λ k. name_turn (P k) (Q k) (R k)) (λ k. name_shrinks (P k) (Q k) (R k) (hp.shorter k) (hq.shorter k) (hr.shorter k)) (λ _. Unit {0})
      (λ k. name_turn_local (P k) (Q k) (R k) (hp.shorter k) (hq.shorter k) (hr.shorter k) (hp.local k) (hq.local k) (hr.local k))
      (λ found _. on_true _ _ _ (λ _. refl) refl (λ _ _. name_true _ _ (λ m q. pure_f _) (refuse_f _)) (on_true _ _ _ (λ _. refl) refl (λ _ _. pure_f _) (refuse_f _)))
      (λ s ts _. anything _) _ tt)

  for_fam : Fam Room d (λ n. after_for (P n) (Q n) (R n))
  unfolding after_for
  for_fam = name_true _ _ (λ n p. on_true _ _ _ (λ _. refl) refl (λ _ _. numbers_fam n p) (each_fam n p)) (refuse_f _)

  attrib_fam : {C : Type 0} → Fam C d (λ n. attrib (P n) (Q n) (R n))
  unfolding attrib
  attrib_fam {C} = on_true _ _ _ (λ _. refl) refl (λ _ _. bind_f _ _ (λ _. bind_f _ _ (λ _. pure_f _) (expect_f _ (λ _. refl) refl)) (attribute_fam C d)) (pure_f _)

  declared_fam : {C : Type 0} (found : List (Bytes × Bool × Place)) → Fam C d (λ n. declared_turn (P n) (Q n) (R n) found)
  declared_fam found = on_true _ _ _ (λ _. refl) refl (λ _ _. name_true _ _ (λ n p. bind_f _ _ (λ a. pure_f _) attrib_fam) (refuse_f _)) (pure_f _)

  values_fam : {C : Type 0} → Fam C d (λ n. values (P n) (Q n) (R n))
  unfolding values
  values_fam = on_room _ _ _ _ (room_grows d P hp 1) (λ _. refl) refl (λ _ _. list_fam d P hp) (pure_f _)

  names_fam : {C : Type 0} (n : Bytes) (p : Place) → Fam C d (λ k. local_names (P k) (Q k) (R k) n p)
  unfolding local_names more_declared
  names_fam {C} n p =
      bind_f _ _ (λ a. bind_f _ _ (λ ns. bind_f _ _ (λ es. pure_f _) values_fam)
      (many_fam C d (λ k. declared_turn (P k) (Q k) (R k)) (λ k. declared_shrinks (P k) (Q k) (R k) (hp.shorter k) (hq.shorter k) (hr.shorter k)) (λ _. Unit {0})
      (λ k. declared_turn_local (P k) (Q k) (R k) (hp.shorter k) (hq.shorter k) (hr.shorter k) (hp.local k) (hq.local k) (hr.local k)) (λ found _. declared_fam found) (λ s ts _. anything _) _ tt))
      attrib_fam

  local_fam : {C : Type 0} → Fam C d (λ n. after_local (P n) (Q n) (R n))
  unfolding after_local local_function
  local_fam {C} =
      on_room _ _ _ _ (room_grows d P hp 1) (λ _. refl) refl
      (λ _ at. when (λ (c : C × (nat_le 1 (P d).depth ≡ true)). leb-true 1 (P d).depth c.1) (name_true _ _ (λ n p. bind_f _ _ (λ b. pure_f _) (body_fam d P hp at [])) (refuse_f _)))
      (name_true _ _ (λ n p. names_fam n p) (refuse_f _))

  -- ---- `function`

  abbrev Wide : Type 0
  Wide = 2 ≤ (P d).depth

  inner_room : Wide → 1 ≤ (Q d).depth
  inner_room c = omega (arith, c, below)

  defined_fam : {C : Type 0} → (C → Wide) → (at : Place) (e : Measured Expr) (first : List (Bytes × Place)) → Fam C d (λ n. defined (P n) (Q n) (R n) at e first)
  unfolding defined
  defined_fam {C} wide at e first = bind_f _ _ (λ b. pure_f _) (when (λ (c : C). inner_room (wide c)) (body_fam d Q hq at first))

  after_path_fam : (at : Place) (e : Measured Expr) → Fam Wide d (λ n. after_path (P n) (Q n) (R n) at e)
  unfolding after_path
  after_path_fam at e =
      on_room _ _ _ _ (room_grows d Q hq e.depth) (λ _. refl) refl
      (λ _ p. name_true _ _ (λ n q. defined_fam {C = Wide × (nat_le e.depth (Q d).depth ≡ true)} (λ c. c.0) at _ _) (refuse_f _)) (defined_fam (λ c. c) at e [])

  path_fam : {C : Type 0} (e : Measured Expr) → Fam C d (λ n. path_turn (P n) (Q n) (R n) e)
  path_fam e = on_room _ _ _ _ (room_grows d Q hq e.depth) (λ _. refl) refl (λ _ p. name_true _ _ (λ n q. pure_f _) (refuse_f _)) (pure_f _)

  function_fam : (at : Place) → Fam Wide d (λ n. after_function (P n) (Q n) (R n) at)
  unfolding after_function path
  function_fam at =
      name_true _ _ (λ n p. bind_f _ _ (after_path_fam at)
      (many_fam Wide d (λ k. path_turn (P k) (Q k) (R k)) (λ k. path_shrinks (P k) (Q k) (R k) (hp.shorter k) (hq.shorter k) (hr.shorter k)) (λ _. Unit {0})
      (λ k. path_turn_local (P k) (Q k) (R k) (hp.shorter k) (hq.shorter k) (hr.shorter k) (hp.local k) (hq.local k) (hr.local k)) (λ e _. path_fam e) (λ s ts _. anything _) _ tt))
      (refuse_f _)

  -- ---- assignments and calls

  abbrev DeepPrefix : Prefix → Type 0
  DeepPrefix x = 1 ≤ x.expr.depth

  target_fam : {C : Type 0} (x : Prefix) → DeepPrefix x → Fam C d (λ n. target_turn (P n) (Q n) (R n) x)
  target_fam x i =
      index_fam d Q hq x.expr (λ e. again (as_variable e)) (λ n. on_call (R n) x.expr (λ e. again (as_call e)) (pure (done x)))
      (call_fam d R hr x.expr (λ e. again (as_call e)) (λ _. pure (done x)) i (pure_f _))

  target_yields : (x : Prefix) → DeepPrefix x → (ts : List Token) → Yields DeepPrefix (target_turn (P d) (Q d) (R d) x ts)
  target_yields x i ts =
      index_yields DeepPrefix (Q d) (λ e. again (as_variable e)) (on_call (R d) x.expr (λ e. again (as_call e)) (pure (done x))) (λ y h us. h)
      (call_yields DeepPrefix (R d) (λ e. again (as_call e)) (pure (done x)) (λ y h us. h) (λ us. tt) x.expr) x.expr ts

  needs_fam : {C : Type 0} (o : Ends) (e : Measured Expr) → Fam C d (λ n. needs_variable (P n) (Q n) (R n) o e)
  needs_fam ends.Variable e = pure_f e
  needs_fam ends.Call e = refuse_f _
  needs_fam ends.Group e = refuse_f _

  target_from_fam : {C : Type 0} (x : Prefix) → DeepPrefix x → Fam C d (λ n. target_from (P n) (Q n) (R n) x)
  unfolding target_from
  target_from_fam {C} x i =
      bind_f _ _ (λ y. needs_fam y.ends y.expr)
      (many_fam C d (λ k. target_turn (P k) (Q k) (R k)) (λ k. target_shrinks (P k) (Q k) (R k) (hp.shorter k) (hq.shorter k) (hr.shorter k)) DeepPrefix
      (λ k. target_turn_local (P k) (Q k) (R k) (hp.shorter k) (hq.shorter k) (hr.shorter k) (hp.local k) (hq.local k) (hr.local k)) (λ y k. target_fam y k) (λ y ts k. target_yields y k ts) x i)

  one_target_fam : {C : Type 0} → Fam C d (λ n. target (P n) (Q n) (R n))
  unfolding target
  one_target_fam =
      name_true _ _ (λ n p. target_from_fam (as_variable (name_leaf n p)) (omega arith))
      (on_room _ _ _ _ (room_grows d P hp 3) (λ _. refl) refl
      (λ _ p. bind_where (λ n. group (R n) p) (λ n e. target_from (P n) (Q n) (R n) (as_group e)) AtLeastOne (group_deep d R hr d p) (λ e i. target_from_fam (as_group e) i)
      (λ n e. from_local (P n) (Q n) (R n) (hp.shorter n) (hq.shorter n) (hr.shorter n) (hp.local n) (hq.local n) (hr.local n) (as_group e)) (group_fam d R hr p))
      (refuse_f _))

  assigned_fam : {C : Type 0} (found : Measured (List Expr)) → Fam C d (λ n. assigned (P n) (Q n) (R n) found)
  unfolding assigned
  assigned_fam {C} found =
      many_fam C d (λ k. targets_turn (P k) (Q k) (R k)) (λ k. targets_shrinks (P k) (Q k) (R k) (hp.shorter k) (hq.shorter k) (hr.shorter k)) (λ _. Unit {0})
      (λ k. targets_turn_local (P k) (Q k) (R k) (hp.shorter k) (hq.shorter k) (hr.shorter k) (hp.local k) (hq.local k) (hr.local k))
      (λ x _. on_true _ _ _ (λ _. refl) refl (λ _ _. bind_f _ _ (λ e. pure_f _) one_target_fam) (on_true _ _ _ (λ _. refl) refl (λ _ _. bind_f _ _ (λ es. pure_f _) (list_fam d P hp)) (refuse_f _)))
      (λ s ts _. anything _) found tt

  finished_fam : {C : Type 0} (o : Ends) (e : Measured Expr) → Fam C d (λ n. finished (P n) (Q n) (R n) o e)
  finished_fam ends.Variable e = assigned_fam _
  finished_fam ends.Call e = pure_f _
  finished_fam ends.Group e = refuse_f _

  prefix_fam : {C : Type 0} (x : Prefix) → DeepPrefix x → Fam C d (λ n. prefix_turn (P n) (Q n) (R n) x)
  prefix_fam x i =
      index_fam d Q hq x.expr (λ e. again (as_variable e)) (λ n. on_call (Q n) x.expr (λ e. again (as_call e)) (pure (done x)))
      (call_fam d Q hq x.expr (λ e. again (as_call e)) (λ _. pure (done x)) i (pure_f _))

  prefix_yields : (x : Prefix) → DeepPrefix x → (ts : List Token) → Yields DeepPrefix (prefix_turn (P d) (Q d) (R d) x ts)
  prefix_yields x i ts =
      index_yields DeepPrefix (Q d) (λ e. again (as_variable e)) (on_call (Q d) x.expr (λ e. again (as_call e)) (pure (done x))) (λ y h us. h)
      (call_yields DeepPrefix (Q d) (λ e. again (as_call e)) (pure (done x)) (λ y h us. h) (λ us. tt) x.expr) x.expr ts

  begun_fam : {C : Type 0} (x : Prefix) → DeepPrefix x → Fam C d (λ n. begun (P n) (Q n) (R n) x)
  unfolding begun prefixes
  begun_fam {C} x i =
      bind_f _ _ (λ y. finished_fam y.ends y.expr)
      (many_fam C d (λ k. prefix_turn (P k) (Q k) (R k)) (λ k. prefix_shrinks (P k) (Q k) (R k) (hp.shorter k) (hq.shorter k) (hr.shorter k)) DeepPrefix
      (λ k. prefix_turn_local (P k) (Q k) (R k) (hp.shorter k) (hq.shorter k) (hr.shorter k) (hp.local k) (hq.local k) (hr.local k)) (λ y k. prefix_fam y k) (λ y ts k. prefix_yields y k ts) x i)

  open_fam : {C : Type 0} (p : Place) → Fam C d (λ n. after_open (P n) (Q n) (R n) p)
  unfolding after_open
  open_fam p = bind_where (λ n. group (R n) p) (λ n e. begun (P n) (Q n) (R n) (as_group e)) AtLeastOne (group_deep d R hr d p) (λ e i. begun_fam (as_group e) i)
      (λ n e. begun_local (P n) (Q n) (R n) (hp.shorter n) (hq.shorter n) (hr.shorter n) (hp.local n) (hq.local n) (hr.local n) (as_group e)) (group_fam d R hr p)

  -- ---- jumps

  goto_fam : {C : Type 0} → Fam C d (λ n. after_goto)
  unfolding after_goto
  goto_fam = name_true _ _ (λ n p. pure_f _) (refuse_f _)

  label_fam : {C : Type 0} → Fam C d (λ n. after_colons)
  unfolding after_colons
  label_fam = name_true _ _ (λ n p. bind_f _ _ (λ _. pure_f _) (expect_f _ (λ _. refl) refl)) (refuse_f _)

  -- ---- blocks

  return_fam : {C : Type 0} → Fam C d (λ n. after_return (P n) (Q n) (R n))
  unfolding after_return returned semicolon
  return_fam {C} =
      bind_f _ _ (λ es. bind_f _ _ (λ _. pure_f _) (on_true _ _ _ (λ _. refl) refl (λ _ _. pure_f _) (pure_f _)))
      (before_fam C d _ (λ _. pure nothing) (λ n. list (P n)) (λ n m. refl) (pure_f _) (list_fam d P hp))

  stat_fam : {C : Type 0} (found : Measured (List Stat)) → Fam C d (λ n. stat_turn (P n) (Q n) (R n) found)
  stat_fam {C} found =
      let one : (C × (nat_le 1 (P d).depth ≡ true)) → Room = λ c. leb-true 1 (P d).depth c.1 in
      let two : (C × (nat_le 2 (P d).depth ≡ true)) → Wide = λ c. leb-true 2 (P d).depth c.1 in
      on_true _ _ _ (λ _. refl) refl (λ _ _. pure_f _)
      (on_true _ _ _ (λ _. refl) refl (λ _ _. bind_f _ _ (λ x. pure_f _) return_fam)
      (on_true _ _ _ (λ _. refl) refl (λ _ p. pure_f _)
      (on_true _ _ _ (λ _. refl) refl (λ _ _. bind_f _ _ (λ x. pure_f _) goto_fam)
      (on_true _ _ _ (λ _. refl) refl (λ _ _. bind_f _ _ (λ x. pure_f _) label_fam)
      (name_room _ _ _ (room_grows d P hp 1) (λ n p. bind_f _ _ (λ x. pure_f _) (begun_fam (as_variable (name_leaf n p)) (omega arith)))
      (on_room _ _ _ _ (room_grows d P hp 3) (λ _. refl) refl (λ _ p. bind_f _ _ (λ x. pure_f _) (open_fam p))
      (on_true _ _ _ (λ _. refl) refl (λ _ _. bind_f _ _ (λ x. pure_f _) local_fam)
      (on_room _ _ _ _ (room_grows d P hp 1) (λ _. refl) refl (λ _ _. bind_f _ _ (λ x. pure_f _) (when one if_fam))
      (on_room _ _ _ _ (room_grows d P hp 1) (λ _. refl) refl (λ _ _. bind_f _ _ (λ x. pure_f _) (when one for_fam))
      (on_room _ _ _ _ (room_grows d P hp 2) (λ _. refl) refl (λ _ p. bind_f _ _ (λ x. pure_f _) (when two (function_fam p)))
      (on_room _ _ _ _ (room_grows d P hp 1) (λ _. refl) refl (λ _ _. bind_f _ _ (λ x. pure_f _) (when one while_fam))
      (on_room _ _ _ _ (room_grows d P hp 1) (λ _. refl) refl (λ _ _. bind_f _ _ (λ x. pure_f _) (when one repeat_fam))
      (on_room _ _ _ _ (room_grows d P hp 1) (λ _. refl) refl (λ _ _. bind_f _ _ (λ x. pure_f _) (when one do_fam)) (pure_f _))))))))))))))

  pub block_fam : {C : Type 0} → Fam C d (λ n. block (P n) (Q n) (R n))
  unfolding block more_stats
  block_fam {C} =
      bind_f _ _ (λ found. pure_f _)
      (many_fam C d (λ k. stat_turn (P k) (Q k) (R k)) (λ k. stat_shrinks (P k) (Q k) (R k) (hp.shorter k) (hq.shorter k) (hr.shorter k)) (λ _. Unit {0})
      (λ k. stat_turn_local (P k) (Q k) (R k) (hp.shorter k) (hq.shorter k) (hr.shorter k) (hp.local k) (hq.local k) (hr.local k)) (λ found _. stat_fam found) (λ s ts _. anything _) _ tt)
