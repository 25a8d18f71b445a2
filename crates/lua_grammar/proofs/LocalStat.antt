-- The readers of statements are local.
use Rattle.std.proofs.Common.{refl, ℕ, zero, suc, true, false, List, []}
use Rattle.lua_tokens.specs.declared.place.Place.{Place}
use Rattle.lua_tree.specs.declared.expr.Expr.{Expr}
use Rattle.lua_tree.specs.declared.stat.Branch.{Branch}
use Rattle.lua_grammar.specs.declared.measured.Measured.{Measured}
use Rattle.lua_grammar.specs.declared.measured.Prefix.{Prefix}
use Rattle.lua_grammar.specs.declared.measured.Ends.{Ends}
use Rattle.lua_grammar.specs.declared.measured.Ends.TheVariants as ends
use Rattle.lua_grammar.specs.Written.{Bytes}
use Rattle.lua_grammar.specs.Input.{pure, again, done}
use Rattle.lua_grammar.specs.Expressions.{Parts, on_call}
use Rattle.lua_grammar.specs.Statements.{as_variable, as_call, after_do, after_while, after_repeat, condition, after_else, more_arms, after_if, for_step, for_numbers, for_names, for_each, after_for, attrib, more_declared, values, local_names, local_function, after_local, path, defined, after_path, after_function, needs_variable, target_from, target, assigned, finished, prefixes, begun, after_open, after_goto, after_colons, returned, semicolon, after_return, more_stats, arm_turn, name_turn, declared_turn, path_turn, target_turn, targets_turn, prefix_turn, stat_turn, block, Levels, levels, no_parts, flat_parts, parts}
use Rattle.lua_grammar.proofs.Shorter.{ShorterParts, none_shorter, levels_shorter, arm_shrinks, name_shrinks, declared_shrinks, path_shrinks, target_shrinks, targets_shrinks, prefix_shrinks, stat_shrinks}
use Rattle.lua_grammar.proofs.Properties.{Local}
use Rattle.lua_grammar.proofs.Local.{pure_local, refuse_local, bind_local, on_local, name_local, expect_local, before_local, attribute_local, many_local}
use Rattle.lua_grammar.proofs.LocalExpr.{LocalParts, list_local, index_local, call_local, table_local, body_local, group_local, level_local, rest_local}

module _ (P Q R : Parts) (shp : ShorterParts P) (shq : ShorterParts Q) (shr : ShorterParts R) (hp : LocalParts P) (hq : LocalParts Q) (hr : LocalParts R) where
  do_local : Local (after_do P Q R)
  unfolding after_do
  do_local = bind_local _ _ (λ b. bind_local _ _ (λ _. (pure_local _)) (expect_local _ (λ _. refl) refl)) hp.block

  while_local : Local (after_while P Q R)
  unfolding after_while
  while_local = bind_local _ _ (λ e. bind_local _ _ (λ _. bind_local _ _ (λ b. bind_local _ _ (λ _. (pure_local _)) (expect_local _ (λ _. refl) refl)) hp.block) (expect_local _ (λ _. refl) refl)) (hp.expr 0)

  repeat_local : Local (after_repeat P Q R)
  unfolding after_repeat
  repeat_local = bind_local _ _ (λ b. bind_local _ _ (λ _. bind_local _ _ (λ e. (pure_local _)) (hp.expr 0)) (expect_local _ (λ _. refl) refl)) hp.block

  pub condition_local : Local (condition P Q R)
  unfolding condition
  condition_local = bind_local _ _ (λ e. bind_local _ _ (λ _. bind_local _ _ (λ b. (pure_local _)) hp.block) (expect_local _ (λ _. refl) refl)) (hp.expr 0)

  pub else_local : (found : Measured (List Branch)) → Local (after_else P Q R found)
  unfolding after_else
  else_local found = bind_local _ _ (λ b. bind_local _ _ (λ _. (pure_local _)) (expect_local _ (λ _. refl) refl)) hp.block

  pub arm_turn_local : ((s : _) → Local (arm_turn P Q R s))
  arm_turn_local found =
      on_local _ _ _ _ (λ _. refl) refl (λ _ _. bind_local _ _ (λ x. (pure_local _)) condition_local)
      (on_local _ _ _ _ (λ _. refl) refl (λ _ _. bind_local _ _ (λ x. (pure_local _)) (else_local found)) (on_local _ _ _ _ (λ _. refl) refl (λ _ _. (pure_local _)) (refuse_local _)))

  if_local : Local (after_if P Q R)
  unfolding after_if more_arms
  if_local = bind_local _ _ (λ x. many_local _ (arm_shrinks P Q R shp shq shr) arm_turn_local _) condition_local

  step_local : Local (for_step P Q R)
  unfolding for_step
  step_local = on_local _ _ _ _ (λ _. refl) refl (λ _ _. bind_local _ _ (λ e. (pure_local _)) (hp.expr 0)) (pure_local _)

  numbers_local : (n : Bytes) (p : Place) → Local (for_numbers P Q R n p)
  unfolding for_numbers
  numbers_local n p =
      bind_local _ _ (λ from. bind_local _ _ (λ _. bind_local _ _ (λ to. bind_local _ _ (λ by. bind_local _ _ (λ _. bind_local _ _ (λ b. bind_local _ _ (λ _. (pure_local _))
      (expect_local _ (λ _. refl) refl)) hp.block) (expect_local _ (λ _. refl) refl)) step_local) (hp.expr 0)) (expect_local _ (λ _. refl) refl)) (hp.expr 0)

  pub name_turn_local : ((s : _) → Local (name_turn P Q R s))
  name_turn_local found = on_local _ _ _ _ (λ _. refl) refl (λ _ _. name_local _ _ _ (λ n p. (pure_local _)) (refuse_local _)) (on_local _ _ _ _ (λ _. refl) refl (λ _ _. (pure_local _)) (refuse_local _))

  each_local : (n : Bytes) (p : Place) → Local (for_each P Q R n p)
  unfolding for_each for_names
  each_local n p =
      bind_local _ _ (λ ns. bind_local _ _ (λ es. bind_local _ _ (λ _. bind_local _ _ (λ b. bind_local _ _ (λ _. (pure_local _))
      (expect_local _ (λ _. refl) refl)) hp.block) (expect_local _ (λ _. refl) refl)) (list_local P shp hp)) (many_local _ (name_shrinks P Q R shp shq shr) name_turn_local _)

  for_local : Local (after_for P Q R)
  unfolding after_for
  for_local = name_local _ _ _ (λ n p. on_local _ _ _ _ (λ _. refl) refl (λ _ _. numbers_local n p) (each_local n p)) (refuse_local _)

  pub attrib_local : Local (attrib P Q R)
  unfolding attrib
  attrib_local = on_local _ _ _ _ (λ _. refl) refl (λ _ _. bind_local _ _ (λ _. bind_local _ _ (λ _. (pure_local _)) (expect_local _ (λ _. refl) refl)) attribute_local) (pure_local _)

  pub declared_turn_local : ((s : _) → Local (declared_turn P Q R s))
  declared_turn_local found = on_local _ _ _ _ (λ _. refl) refl (λ _ _. name_local _ _ _ (λ n p. bind_local _ _ (λ a. (pure_local _)) attrib_local) (refuse_local _)) (pure_local _)

  values_local : Local (values P Q R)
  unfolding values
  values_local = on_local _ _ _ _ (λ _. refl) refl (λ _ _. list_local P shp hp) (pure_local _)

  names_local : (n : Bytes) (p : Place) → Local (local_names P Q R n p)
  unfolding local_names more_declared
  names_local n p = bind_local _ _ (λ a. bind_local _ _ (λ ns. bind_local _ _ (λ es. (pure_local _)) values_local) (many_local _ (declared_shrinks P Q R shp shq shr) declared_turn_local _)) attrib_local

  local_local : Local (after_local P Q R)
  unfolding after_local local_function
  local_local =
      on_local _ _ _ _ (λ _. refl) refl (λ _ at. name_local _ _ _ (λ n p. bind_local _ _ (λ b. (pure_local _)) (body_local P shp hp at [])) (refuse_local _)) (name_local _ _ _ names_local (refuse_local _))

  pub path_turn_local : ((s : _) → Local (path_turn P Q R s))
  path_turn_local e = on_local _ _ _ _ (λ _. refl) refl (λ _ p. name_local _ _ _ (λ n q. (pure_local _)) (refuse_local _)) (pure_local _)

  defined_local : (at : Place) (e : Measured Expr) (first : List (Bytes × Place)) → Local (defined P Q R at e first)
  unfolding defined
  defined_local at e first = bind_local _ _ (λ b. (pure_local _)) (body_local Q shq hq at first)

  after_path_local : (at : Place) (e : Measured Expr) → Local (after_path P Q R at e)
  unfolding after_path
  after_path_local at e = on_local _ _ _ _ (λ _. refl) refl (λ _ p. name_local _ _ _ (λ n q. defined_local at _ _) (refuse_local _)) (defined_local at e [])

  function_local : (at : Place) → Local (after_function P Q R at)
  unfolding after_function path
  function_local at = name_local _ _ _ (λ n p. bind_local _ _ (after_path_local at) (many_local _ (path_shrinks P Q R shp shq shr) path_turn_local _)) (refuse_local _)

  pub target_turn_local : ((s : _) → Local (target_turn P Q R s))
  target_turn_local x = index_local Q shq hq x.expr (λ e. again (as_variable e)) (on_call R x.expr (λ e. again (as_call e)) (pure (done x))) (call_local R shr hr x.expr (λ e. again (as_call e)) (pure (done x)) (pure_local _))

  needs_local : (w : Ends) (e : Measured Expr) → Local (needs_variable P Q R w e)
  needs_local ends.Variable e = (pure_local _)
  needs_local ends.Call e = (refuse_local _)
  needs_local ends.Group e = (refuse_local _)

  pub from_local : (x : Prefix) → Local (target_from P Q R x)
  unfolding target_from
  from_local x = bind_local _ _ (λ y. needs_local y.ends y.expr) (many_local _ (target_shrinks P Q R shp shq shr) target_turn_local x)

  pub target_local : Local (target P Q R)
  unfolding target
  target_local = name_local _ _ _ (λ n p. from_local _) (on_local _ _ _ _ (λ _. refl) refl (λ _ p. bind_local _ _ (λ e. from_local _) (group_local R shr hr p)) (refuse_local _))

  pub targets_turn_local : ((s : _) → Local (targets_turn P Q R s))
  targets_turn_local found = on_local _ _ _ _ (λ _. refl) refl (λ _ _. bind_local _ _ (λ e. (pure_local _)) target_local) (on_local _ _ _ _ (λ _. refl) refl (λ _ _. bind_local _ _ (λ es. (pure_local _)) (list_local P shp hp)) (refuse_local _))

  pub prefix_turn_local : ((s : _) → Local (prefix_turn P Q R s))
  prefix_turn_local x = index_local Q shq hq x.expr (λ e. again (as_variable e)) (on_call Q x.expr (λ e. again (as_call e)) (pure (done x))) (call_local Q shq hq x.expr (λ e. again (as_call e)) (pure (done x)) (pure_local _))

  finished_local : (w : Ends) (e : Measured Expr) → Local (finished P Q R w e)
  unfolding assigned
  finished_local ends.Variable e = many_local _ (targets_shrinks P Q R shp shq shr) targets_turn_local _
  finished_local ends.Call e = (pure_local _)
  finished_local ends.Group e = (refuse_local _)

  pub begun_local : (x : Prefix) → Local (begun P Q R x)
  unfolding begun prefixes
  begun_local x = bind_local _ _ (λ y. finished_local y.ends y.expr) (many_local _ (prefix_shrinks P Q R shp shq shr) prefix_turn_local x)

  open_local : (p : Place) → Local (after_open P Q R p)
  unfolding after_open
  open_local p = bind_local _ _ (λ e. begun_local _) (group_local R shr hr p)

  goto_local : Local after_goto
  unfolding after_goto
  goto_local = name_local _ _ _ (λ n p. pure_local _) (refuse_local _)

  label_local : Local after_colons
  unfolding after_colons
  label_local = name_local _ _ _ (λ n p. bind_local _ _ (λ _. pure_local _) (expect_local _ (λ _. refl) refl)) (refuse_local _)

  return_local : Local (after_return P Q R)
  unfolding after_return returned semicolon
  return_local = bind_local _ _ (λ es. bind_local _ _ (λ _. (pure_local _)) (on_local _ _ _ _ (λ _. refl) refl (λ _ _. (pure_local _)) (pure_local _))) (before_local _ _ _ (λ n m. refl) (pure_local _) (list_local P shp hp))

  pub stat_turn_local : ((s : _) → Local (stat_turn P Q R s))
  stat_turn_local found =
      on_local _ _ _ _ (λ _. refl) refl (λ _ _. (pure_local _))
      (on_local _ _ _ _ (λ _. refl) refl (λ _ _. bind_local _ _ (λ x. (pure_local _)) return_local)
      (on_local _ _ _ _ (λ _. refl) refl (λ _ p. (pure_local _))
      (on_local _ _ _ _ (λ _. refl) refl (λ _ _. bind_local _ _ (λ x. (pure_local _)) goto_local)
      (on_local _ _ _ _ (λ _. refl) refl (λ _ _. bind_local _ _ (λ x. (pure_local _)) label_local)
      (name_local _ _ _ (λ n p. bind_local _ _ (λ x. (pure_local _)) (begun_local _))
      (on_local _ _ _ _ (λ _. refl) refl (λ _ p. bind_local _ _ (λ x. (pure_local _)) (open_local p))
      (on_local _ _ _ _ (λ _. refl) refl (λ _ _. bind_local _ _ (λ x. (pure_local _)) local_local)
      (on_local _ _ _ _ (λ _. refl) refl (λ _ _. bind_local _ _ (λ x. (pure_local _)) if_local)
      (on_local _ _ _ _ (λ _. refl) refl (λ _ _. bind_local _ _ (λ x. (pure_local _)) for_local)
      (on_local _ _ _ _ (λ _. refl) refl (λ _ p. bind_local _ _ (λ x. (pure_local _)) (function_local p))
      (on_local _ _ _ _ (λ _. refl) refl (λ _ _. bind_local _ _ (λ x. (pure_local _)) while_local)
      (on_local _ _ _ _ (λ _. refl) refl (λ _ _. bind_local _ _ (λ x. (pure_local _)) repeat_local)
      (on_local _ _ _ _ (λ _. refl) refl (λ _ _. bind_local _ _ (λ x. (pure_local _)) do_local) (pure_local _))))))))))))))

  pub block_local : Local (block P Q R)
  unfolding block more_stats
  block_local = bind_local _ _ (λ found. (pure_local _)) (many_local _ (stat_shrinks P Q R shp shq shr) stat_turn_local _)

-- ---- readers of each depth

pub none_local : LocalParts no_parts
none_local = record { expr = λ m. refuse_local _; rest = λ e. refuse_local _; table = λ p. refuse_local _; block = refuse_local _ }

flat_local : LocalParts flat_parts
flat_local = record { expr = level_local no_parts none_shorter none_local false; rest = λ e. refuse_local _; table = λ p. refuse_local _; block = refuse_local _ }

record LocalLevels (x : Levels) : Type 0 where
  here : LocalParts x.here
  below : LocalParts x.below
  lower : LocalParts x.lower

levels_local : (d : ℕ) → LocalLevels (levels d)
unfolding levels
levels_local zero = record { here = flat_local; below = flat_local; lower = flat_local }
levels_local (suc d) =
    let x = levels_local d in
    let h = levels_shorter d in
    record {
      here = record {
        expr = level_local (levels d).here h.here x.here true;
        rest = rest_local (levels d).here h.here x.here;
        table = table_local (levels d).here h.here x.here;
        block = block_local (levels d).here (levels d).below (levels d).lower h.here h.below h.lower x.here x.below x.lower;
      };
      below = x.here;
      lower = x.below;
    }

pub parts_local : (d : ℕ) → LocalParts (parts d)
parts_local d = (levels_local d).here
