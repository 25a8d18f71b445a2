-- Each reader leaves no more tokens than it is given, and each turn of a loop but the last takes one.
use Rattle.std.proofs.Common.{ℕ, zero, suc, Bool, true, false, List, []}
use Rattle.lua_tokens.specs.declared.place.Place.{Place}
use Rattle.lua_tree.specs.declared.expr.Expr.{Expr}
use Rattle.lua_tree.specs.declared.expr.Field.{Field}
use Rattle.lua_tree.specs.declared.stat.Branch.{Branch}
use Rattle.lua_grammar.specs.declared.measured.Measured.{Measured}
use Rattle.lua_grammar.specs.declared.measured.Arguments.{Arguments}
use Rattle.lua_grammar.specs.declared.measured.Prefix.{Prefix}
use Rattle.lua_grammar.specs.declared.measured.Ends.{Ends}
use Rattle.lua_grammar.specs.declared.measured.Ends.TheVariants as ends
use Rattle.lua_grammar.specs.Written.{Bytes}
use Rattle.lua_grammar.specs.Input.{Parser, pure, Turn, again, done}
use Rattle.lua_grammar.specs.Expressions.{Parts, named_field, keyed_field, last_dots, list_turn, more_exprs, list, in_parens, suffix_turn, suffixes, field_turn, table, param_turn, parameters, function_body, group, operand, op_turn, on_args, on_index, on_call, separated, climb, from_level, rest_of}
use Rattle.lua_grammar.specs.Statements.{as_variable, as_call, after_do, after_while, after_repeat, condition, after_else, more_arms, after_if, for_step, for_numbers, for_names, for_each, after_for, attrib, more_declared, values, local_names, local_function, after_local, path, defined, after_path, after_function, needs_variable, target_from, target, assigned, finished, prefixes, begun, after_open, after_goto, after_colons, returned, semicolon, after_return, more_stats, arm_turn, name_turn, declared_turn, path_turn, target_turn, targets_turn, prefix_turn, stat_turn, block, Levels, levels, no_parts, flat_parts, parts}
use Rattle.lua_grammar.proofs.Loops.{Shorter, Takes, Shrinks, stays, gives_up, bind_shorter, on_shorter, expect_shorter, before_shorter, attribute_shorter, on_takes, bind_takes, many_shorter}

pub record ShorterParts (P : Parts) : Type 0 where
  pub expr : (m : ℕ) → Shorter (P.expr m)
  pub rest : (e : Measured Expr) → Shorter (P.rest e)
  pub table : (p : Place) → Shorter (P.table p)
  pub block : Shorter P.block

module _ (P : Parts) (h : ShorterParts P) where
  pub list_shrinks : Shrinks (list_turn P)
  list_shrinks found = on_takes _ _ _ _ (λ _ _. bind_shorter _ _ (λ e. stays) (h.expr 0)) stays

  pub more_exprs_shorter : (found : Measured (List Expr)) → Shorter (more_exprs P found)
  unfolding more_exprs
  more_exprs_shorter found = many_shorter _ list_shrinks found

  pub list_shorter : Shorter (list P)
  unfolding list
  list_shorter = bind_shorter _ _ (λ e. more_exprs_shorter _) (h.expr 0)

  pub in_parens_shorter : (p : Place) → Shorter (in_parens P p)
  unfolding in_parens
  in_parens_shorter p = on_shorter _ _ _ _ (λ _ _. stays) (bind_shorter _ _ (λ es. bind_shorter _ _ (λ _. stays) (expect_shorter _)) list_shorter)

  -- with anything that is done with the arguments
  args_shorter : {A : Type 0} (room : Bool) (g : Arguments → Parser A) (q : Parser A) → ((a : Arguments) → Shorter (g a)) → Shorter q → Shorter (on_args P room g q)
  args_shorter room g q hg hq =
      on_shorter _ _ _ _ (λ _ p. bind_shorter _ _ hg (in_parens_shorter p))
      (on_shorter _ _ _ _ (λ _ p. bind_shorter _ _ (λ e. hg _) (h.table p)) (on_shorter _ _ _ _ (λ t p. hg _) hq))

  args_takes : {S A : Type 0} (room : Bool) (g : Arguments → Parser (Turn S A)) (q : Parser (Turn S A)) → ((a : Arguments) → Shorter (g a)) → Takes q → Takes (on_args P room g q)
  args_takes room g q hg hq =
      on_takes _ _ _ _ (λ _ p. bind_shorter _ _ hg (in_parens_shorter p))
      (on_takes _ _ _ _ (λ _ p. bind_shorter _ _ (λ e. hg _) (h.table p)) (on_takes _ _ _ _ (λ t p. hg _) hq))

  pub index_takes : {S A : Type 0} (e : Measured Expr) (g : Measured Expr → Turn S A) (q : Parser (Turn S A)) → Takes q → Takes (on_index P e g q)
  index_takes e g q hq =
      on_takes _ _ _ _ (λ _ p. on_shorter _ _ _ _ (λ n r. stays) gives_up)
      (on_takes _ _ _ _ (λ _ p. bind_shorter _ _ (λ x. bind_shorter _ _ (λ _. stays) (expect_shorter _)) (h.expr 0)) hq)

  pub call_takes : {S A : Type 0} (e : Measured Expr) (g : Measured Expr → Turn S A) (q : Parser (Turn S A)) → Takes q → Takes (on_call P e g q)
  call_takes e g q hq = on_takes _ _ _ _ (λ _ p. on_shorter _ _ _ _ (λ n r. args_shorter _ _ _ (λ a. stays) gives_up) gives_up) (args_takes _ _ _ (λ a. stays) hq)

  pub suffix_shrinks : Shrinks (suffix_turn P)
  suffix_shrinks e = index_takes e again (on_call P e again (pure (done e))) (call_takes e again (pure (done e)) stays)

  pub suffixes_shorter : (e : Measured Expr) → Shorter (suffixes P e)
  unfolding suffixes
  suffixes_shorter e = many_shorter _ suffix_shrinks e

  separated_takes : (found : Measured (List Field)) → Takes (separated P found)
  separated_takes found = on_takes _ _ _ _ (λ _ _. stays) (on_takes _ _ _ _ (λ _ _. stays) (on_takes _ _ _ _ (λ _ _. stays) gives_up))

  separated_shorter : (found : Measured (List Field)) → Shorter (separated P found)
  separated_shorter found = on_shorter _ _ _ _ (λ _ _. stays) (on_shorter _ _ _ _ (λ _ _. stays) (on_shorter _ _ _ _ (λ _ _. stays) gives_up))

  pub named_shorter : (found : Measured (List Field)) (n : Bytes) (p : Place) → Shorter (named_field P found n p)
  unfolding named_field
  named_shorter found n p = on_shorter _ _ _ _ (λ _ _. bind_shorter _ _ (λ e. separated_shorter _) (h.expr 0)) (bind_shorter _ _ (λ e. separated_shorter _) (h.rest _))

  pub keyed_shorter : (found : Measured (List Field)) → Shorter (keyed_field P found)
  unfolding keyed_field
  keyed_shorter found =
      bind_shorter _ _ (λ x. bind_shorter _ _ (λ _. bind_shorter _ _ (λ _. bind_shorter _ _ (λ e. separated_shorter _) (h.expr 0)) (expect_shorter _)) (expect_shorter _)) (h.expr 0)

  pub field_shrinks : Shrinks (field_turn P)
  field_shrinks found =
      on_takes _ _ _ _ (λ _ _. stays) (on_takes _ _ _ _ (λ n p. named_shorter found n p) (on_takes _ _ _ _ (λ _ _. keyed_shorter found) (bind_takes _ _ (λ e. separated_takes _) (h.expr 0))))

  pub table_shorter : (p : Place) → Shorter (table P p)
  unfolding table
  table_shorter p = bind_shorter _ _ (λ fs. stays) (many_shorter _ field_shrinks _)

  last_dots_shorter : (found : List (Bytes × Place)) → Shorter (last_dots P found)
  last_dots_shorter found = bind_shorter _ _ (λ _. stays) (expect_shorter _)

  pub param_shrinks : Shrinks (param_turn P)
  param_shrinks found =
      on_takes _ _ _ _ (λ _ _. on_shorter _ _ _ _ (λ n p. stays) (on_shorter _ _ _ _ (λ _ _. bind_shorter _ _ (λ ps. stays) (last_dots_shorter found)) gives_up))
      (on_takes _ _ _ _ (λ _ _. stays) gives_up)

  pub parameters_shorter : (first : List (Bytes × Place)) → Shorter (parameters P first)
  unfolding parameters
  parameters_shorter first = on_shorter _ _ _ _ (λ n p. many_shorter _ param_shrinks _) (on_shorter _ _ _ _ (λ _ _. last_dots_shorter first) (on_shorter _ _ _ _ (λ _ _. stays) gives_up))

  pub body_shorter : (at : Place) (first : List (Bytes × Place)) → Shorter (function_body P at first)
  unfolding function_body
  body_shorter at first =
      bind_shorter _ _ (λ _. bind_shorter _ _ (λ ps. bind_shorter _ _ (λ b. bind_shorter _ _ (λ _. stays) (expect_shorter _)) h.block) (parameters_shorter first)) (expect_shorter _)

  pub group_shorter : (p : Place) → Shorter (group P p)
  unfolding group
  group_shorter p = bind_shorter _ _ (λ e. bind_shorter _ _ (λ _. stays) (expect_shorter _)) (h.expr 0)

  pub operand_shorter : (here : Bool) → Shorter (operand P here)
  unfolding operand
  operand_shorter here =
      on_shorter _ _ _ _ (λ a p. stays)
      (on_shorter _ _ _ _ (λ n p. suffixes_shorter _)
      (on_shorter _ _ _ _ (λ _ p. bind_shorter _ _ suffixes_shorter (group_shorter p))
      (on_shorter _ _ _ _ (λ _ p. table_shorter p)
      (on_shorter _ _ _ _ (λ _ p. bind_shorter _ _ (λ b. stays) (body_shorter p []))
      (on_shorter _ _ _ _ (λ op p. bind_shorter _ _ (λ e. stays) (h.expr 11)) gives_up)))))

  pub op_shrinks : (m : ℕ) → Shrinks (op_turn P m)
  op_shrinks m x = on_takes _ _ _ _ (λ op p. bind_shorter _ _ (λ y. stays) (h.expr _)) stays

  pub climb_shorter : (m : ℕ) (x : Measured Expr) → Shorter (climb P m x)
  unfolding climb
  climb_shorter m x = many_shorter _ (op_shrinks m) x

  pub level_shorter : (here : Bool) (m : ℕ) → Shorter (from_level P here m)
  unfolding from_level
  level_shorter here m = bind_shorter _ _ (climb_shorter m) (operand_shorter here)

  pub rest_shorter : (e : Measured Expr) → Shorter (rest_of P e)
  unfolding rest_of
  rest_shorter e = bind_shorter _ _ (climb_shorter 0) (suffixes_shorter e)

module _ (P Q R : Parts) (hp : ShorterParts P) (hq : ShorterParts Q) (hr : ShorterParts R) where
  do_shorter : Shorter (after_do P Q R)
  unfolding after_do
  do_shorter = bind_shorter _ _ (λ b. bind_shorter _ _ (λ _. stays) (expect_shorter _)) hp.block

  while_shorter : Shorter (after_while P Q R)
  unfolding after_while
  while_shorter = bind_shorter _ _ (λ e. bind_shorter _ _ (λ _. bind_shorter _ _ (λ b. bind_shorter _ _ (λ _. stays) (expect_shorter _)) hp.block) (expect_shorter _)) (hp.expr 0)

  repeat_shorter : Shorter (after_repeat P Q R)
  unfolding after_repeat
  repeat_shorter = bind_shorter _ _ (λ b. bind_shorter _ _ (λ _. bind_shorter _ _ (λ e. stays) (hp.expr 0)) (expect_shorter _)) hp.block

  pub condition_shorter : Shorter (condition P Q R)
  unfolding condition
  condition_shorter = bind_shorter _ _ (λ e. bind_shorter _ _ (λ _. bind_shorter _ _ (λ b. stays) hp.block) (expect_shorter _)) (hp.expr 0)

  pub else_shorter : (found : Measured (List Branch)) → Shorter (after_else P Q R found)
  unfolding after_else
  else_shorter found = bind_shorter _ _ (λ b. bind_shorter _ _ (λ _. stays) (expect_shorter _)) hp.block

  pub arm_shrinks : Shrinks (arm_turn P Q R)
  arm_shrinks found =
      on_takes _ _ _ _ (λ _ _. bind_shorter _ _ (λ x. stays) condition_shorter)
      (on_takes _ _ _ _ (λ _ _. bind_shorter _ _ (λ x. stays) (else_shorter found)) (on_takes _ _ _ _ (λ _ _. stays) gives_up))

  if_shorter : Shorter (after_if P Q R)
  unfolding after_if more_arms
  if_shorter = bind_shorter _ _ (λ x. many_shorter _ arm_shrinks _) condition_shorter

  step_shorter : Shorter (for_step P Q R)
  unfolding for_step
  step_shorter = on_shorter _ _ _ _ (λ _ _. bind_shorter _ _ (λ e. stays) (hp.expr 0)) stays

  numbers_shorter : (n : Bytes) (p : Place) → Shorter (for_numbers P Q R n p)
  unfolding for_numbers
  numbers_shorter n p =
      bind_shorter _ _ (λ from. bind_shorter _ _ (λ _. bind_shorter _ _ (λ to. bind_shorter _ _ (λ by. bind_shorter _ _ (λ _. bind_shorter _ _ (λ b. bind_shorter _ _ (λ _. stays)
      (expect_shorter _)) hp.block) (expect_shorter _)) step_shorter) (hp.expr 0)) (expect_shorter _)) (hp.expr 0)

  pub name_shrinks : Shrinks (name_turn P Q R)
  name_shrinks found = on_takes _ _ _ _ (λ _ _. on_shorter _ _ _ _ (λ n p. stays) gives_up) (on_takes _ _ _ _ (λ _ _. stays) gives_up)

  each_shorter : (n : Bytes) (p : Place) → Shorter (for_each P Q R n p)
  unfolding for_each for_names
  each_shorter n p =
      bind_shorter _ _ (λ ns. bind_shorter _ _ (λ es. bind_shorter _ _ (λ _. bind_shorter _ _ (λ b. bind_shorter _ _ (λ _. stays)
      (expect_shorter _)) hp.block) (expect_shorter _)) (list_shorter P hp)) (many_shorter _ name_shrinks _)

  for_shorter : Shorter (after_for P Q R)
  unfolding after_for
  for_shorter = on_shorter _ _ _ _ (λ n p. on_shorter _ _ _ _ (λ _ _. numbers_shorter n p) (each_shorter n p)) gives_up

  pub attrib_shorter : Shorter (attrib P Q R)
  unfolding attrib
  attrib_shorter = on_shorter _ _ _ _ (λ _ _. bind_shorter _ _ (λ _. bind_shorter _ _ (λ _. stays) (expect_shorter _)) attribute_shorter) stays

  pub declared_shrinks : Shrinks (declared_turn P Q R)
  declared_shrinks found = on_takes _ _ _ _ (λ _ _. on_shorter _ _ _ _ (λ n p. bind_shorter _ _ (λ a. stays) attrib_shorter) gives_up) stays

  values_shorter : Shorter (values P Q R)
  unfolding values
  values_shorter = on_shorter _ _ _ _ (λ _ _. list_shorter P hp) stays

  names_shorter : (n : Bytes) (p : Place) → Shorter (local_names P Q R n p)
  unfolding local_names more_declared
  names_shorter n p = bind_shorter _ _ (λ a. bind_shorter _ _ (λ ns. bind_shorter _ _ (λ es. stays) values_shorter) (many_shorter _ declared_shrinks _)) attrib_shorter

  local_shorter : Shorter (after_local P Q R)
  unfolding after_local local_function
  local_shorter =
      on_shorter _ _ _ _ (λ _ at. on_shorter _ _ _ _ (λ n p. bind_shorter _ _ (λ b. stays) (body_shorter P hp at [])) gives_up) (on_shorter _ _ _ _ names_shorter gives_up)

  pub path_shrinks : Shrinks (path_turn P Q R)
  path_shrinks e = on_takes _ _ _ _ (λ _ p. on_shorter _ _ _ _ (λ n q. stays) gives_up) stays

  defined_shorter : (at : Place) (e : Measured Expr) (first : List (Bytes × Place)) → Shorter (defined P Q R at e first)
  unfolding defined
  defined_shorter at e first = bind_shorter _ _ (λ b. stays) (body_shorter Q hq at first)

  after_path_shorter : (at : Place) (e : Measured Expr) → Shorter (after_path P Q R at e)
  unfolding after_path
  after_path_shorter at e = on_shorter _ _ _ _ (λ _ p. on_shorter _ _ _ _ (λ n q. defined_shorter at _ _) gives_up) (defined_shorter at e [])

  function_shorter : (at : Place) → Shorter (after_function P Q R at)
  unfolding after_function path
  function_shorter at = on_shorter _ _ _ _ (λ n p. bind_shorter _ _ (after_path_shorter at) (many_shorter _ path_shrinks _)) gives_up

  pub target_shrinks : Shrinks (target_turn P Q R)
  target_shrinks x = index_takes Q hq x.expr (λ e. again (as_variable e)) (on_call R x.expr (λ e. again (as_call e)) (pure (done x))) (call_takes R hr x.expr (λ e. again (as_call e)) (pure (done x)) stays)

  needs_shorter : (w : Ends) (e : Measured Expr) → Shorter (needs_variable P Q R w e)
  needs_shorter ends.Variable e = stays
  needs_shorter ends.Call e = gives_up
  needs_shorter ends.Group e = gives_up

  from_shorter : (x : Prefix) → Shorter (target_from P Q R x)
  unfolding target_from
  from_shorter x = bind_shorter _ _ (λ y. needs_shorter y.ends y.expr) (many_shorter _ target_shrinks x)

  pub target_shorter : Shorter (target P Q R)
  unfolding target
  target_shorter = on_shorter _ _ _ _ (λ n p. from_shorter _) (on_shorter _ _ _ _ (λ _ p. bind_shorter _ _ (λ e. from_shorter _) (group_shorter R hr p)) gives_up)

  pub targets_shrinks : Shrinks (targets_turn P Q R)
  targets_shrinks found = on_takes _ _ _ _ (λ _ _. bind_shorter _ _ (λ e. stays) target_shorter) (on_takes _ _ _ _ (λ _ _. bind_shorter _ _ (λ es. stays) (list_shorter P hp)) gives_up)

  pub prefix_shrinks : Shrinks (prefix_turn P Q R)
  prefix_shrinks x = index_takes Q hq x.expr (λ e. again (as_variable e)) (on_call Q x.expr (λ e. again (as_call e)) (pure (done x))) (call_takes Q hq x.expr (λ e. again (as_call e)) (pure (done x)) stays)

  finished_shorter : (w : Ends) (e : Measured Expr) → Shorter (finished P Q R w e)
  unfolding assigned
  finished_shorter ends.Variable e = many_shorter _ targets_shrinks _
  finished_shorter ends.Call e = stays
  finished_shorter ends.Group e = gives_up

  begun_shorter : (x : Prefix) → Shorter (begun P Q R x)
  unfolding begun prefixes
  begun_shorter x = bind_shorter _ _ (λ y. finished_shorter y.ends y.expr) (many_shorter _ prefix_shrinks x)

  open_shorter : (p : Place) → Shorter (after_open P Q R p)
  unfolding after_open
  open_shorter p = bind_shorter _ _ (λ e. begun_shorter _) (group_shorter R hr p)

  goto_shorter : Shorter after_goto
  unfolding after_goto
  goto_shorter = on_shorter _ _ _ _ (λ n p. stays) gives_up

  label_shorter : Shorter after_colons
  unfolding after_colons
  label_shorter = on_shorter _ _ _ _ (λ n p. bind_shorter _ _ (λ _. stays) (expect_shorter _)) gives_up

  return_shorter : Shorter (after_return P Q R)
  unfolding after_return returned semicolon
  return_shorter = bind_shorter _ _ (λ es. bind_shorter _ _ (λ _. stays) (on_shorter _ _ _ _ (λ _ _. stays) stays)) (before_shorter _ _ _ stays (list_shorter P hp))

  pub stat_shrinks : Shrinks (stat_turn P Q R)
  stat_shrinks found =
      on_takes _ _ _ _ (λ _ _. stays)
      (on_takes _ _ _ _ (λ _ _. bind_shorter _ _ (λ x. stays) return_shorter)
      (on_takes _ _ _ _ (λ _ p. stays)
      (on_takes _ _ _ _ (λ _ _. bind_shorter _ _ (λ x. stays) goto_shorter)
      (on_takes _ _ _ _ (λ _ _. bind_shorter _ _ (λ x. stays) label_shorter)
      (on_takes _ _ _ _ (λ n p. bind_shorter _ _ (λ x. stays) (begun_shorter _))
      (on_takes _ _ _ _ (λ _ p. bind_shorter _ _ (λ x. stays) (open_shorter p))
      (on_takes _ _ _ _ (λ _ _. bind_shorter _ _ (λ x. stays) local_shorter)
      (on_takes _ _ _ _ (λ _ _. bind_shorter _ _ (λ x. stays) if_shorter)
      (on_takes _ _ _ _ (λ _ _. bind_shorter _ _ (λ x. stays) for_shorter)
      (on_takes _ _ _ _ (λ _ p. bind_shorter _ _ (λ x. stays) (function_shorter p))
      (on_takes _ _ _ _ (λ _ _. bind_shorter _ _ (λ x. stays) while_shorter)
      (on_takes _ _ _ _ (λ _ _. bind_shorter _ _ (λ x. stays) repeat_shorter)
      (on_takes _ _ _ _ (λ _ _. bind_shorter _ _ (λ x. stays) do_shorter) stays)))))))))))))

  pub block_shorter : Shorter (block P Q R)
  unfolding block more_stats
  block_shorter = bind_shorter _ _ (λ found. stays) (many_shorter _ stat_shrinks _)

-- ---- readers of each depth

pub none_shorter : ShorterParts no_parts
none_shorter = record { expr = λ m. gives_up; rest = λ e. gives_up; table = λ p. gives_up; block = gives_up }

flat_shorter : ShorterParts flat_parts
flat_shorter = record { expr = level_shorter no_parts none_shorter false; rest = λ e. gives_up; table = λ p. gives_up; block = gives_up }

pub record ShorterLevels (L : Levels) : Type 0 where
  pub here : ShorterParts L.here
  pub below : ShorterParts L.below
  pub lower : ShorterParts L.lower

pub levels_shorter : (d : ℕ) → ShorterLevels (levels d)
unfolding levels
levels_shorter zero = record { here = flat_shorter; below = flat_shorter; lower = flat_shorter }
levels_shorter (suc d) =
    let l = levels_shorter d in
    record {
      here = record {
        expr = level_shorter (levels d).here l.here true;
        rest = rest_shorter (levels d).here l.here;
        table = table_shorter (levels d).here l.here;
        block = block_shorter (levels d).here (levels d).below (levels d).lower l.here l.below l.lower;
      };
      below = l.here;
      lower = l.below;
    }

pub parts_shorter : (d : ℕ) → ShorterParts (parts d)
parts_shorter d = (levels_shorter d).here
