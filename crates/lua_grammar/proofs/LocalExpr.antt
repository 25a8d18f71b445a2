-- The readers of expressions are local.
use Rattle.std.proofs.Common.{refl, ℕ, Bool, List, []}
use Rattle.lua_tokens.specs.declared.place.Place.{Place}
use Rattle.lua_tree.specs.declared.expr.Expr.{Expr}
use Rattle.lua_tree.specs.declared.expr.Field.{Field}
use Rattle.lua_grammar.specs.declared.measured.Measured.{Measured}
use Rattle.lua_grammar.specs.declared.measured.Arguments.{Arguments}
use Rattle.lua_grammar.specs.Written.{Bytes}
use Rattle.lua_grammar.specs.Input.{Parser, pure, Turn, again, done}
use Rattle.lua_grammar.specs.Expressions.{Parts, named_field, keyed_field, last_dots, list_turn, more_exprs, list, in_parens, suffix_turn, suffixes, field_turn, table, param_turn, parameters, function_body, group, operand, op_turn, on_args, on_index, on_call, separated, climb, from_level, rest_of}
use Rattle.lua_grammar.proofs.Shorter.{ShorterParts, list_shrinks, suffix_shrinks, field_shrinks, param_shrinks, op_shrinks}
use Rattle.lua_grammar.proofs.Properties.{Local}
use Rattle.lua_grammar.proofs.Local.{pure_local, refuse_local, bind_local, on_local, name_local, expect_local, many_local}

pub record LocalParts (P : Parts) : Type 0 where
  pub expr : (m : ℕ) → Local (P.expr m)
  pub rest : (e : Measured Expr) → Local (P.rest e)
  pub table : (p : Place) → Local (P.table p)
  pub block : Local P.block

module _ (P : Parts) (sh : ShorterParts P) (h : LocalParts P) where
  pub list_turn_local : ((s : _) → Local (list_turn P s))
  list_turn_local found = on_local _ _ _ _ (λ _. refl) refl (λ _ _. bind_local _ _ (λ e. (pure_local _)) (h.expr 0)) (pure_local _)

  pub more_exprs_local : (found : Measured (List Expr)) → Local (more_exprs P found)
  unfolding more_exprs
  more_exprs_local found = many_local _ (list_shrinks P sh) list_turn_local found

  pub list_local : Local (list P)
  unfolding list
  list_local = bind_local _ _ (λ e. more_exprs_local _) (h.expr 0)

  pub in_parens_local : (p : Place) → Local (in_parens P p)
  unfolding in_parens
  in_parens_local p = on_local _ _ _ _ (λ _. refl) refl (λ _ _. (pure_local _)) (bind_local _ _ (λ es. bind_local _ _ (λ _. (pure_local _)) (expect_local _ (λ _. refl) refl)) list_local)

  -- with anything that is done with the arguments
  args_local : {A : Type 0} (room : Bool) (g : Arguments → Parser A) (q : Parser A) → ((a : Arguments) → Local (g a)) → Local q → Local (on_args P room g q)
  args_local room g q hg hq =
      on_local _ _ _ _ (λ _. refl) refl (λ _ p. bind_local _ _ hg (in_parens_local p))
      (on_local _ _ _ _ (λ _. refl) refl (λ _ p. bind_local _ _ (λ e. hg _) (h.table p)) (on_local _ _ _ _ (λ _. refl) refl (λ t p. hg _) hq))

  pub index_local : {S A : Type 0} (e : Measured Expr) (g : Measured Expr → Turn S A) (q : Parser (Turn S A)) → Local q → Local (on_index P e g q)
  index_local e g q hq =
      on_local _ _ _ _ (λ _. refl) refl (λ _ p. name_local _ _ _ (λ n r. (pure_local _)) (refuse_local _))
      (on_local _ _ _ _ (λ _. refl) refl (λ _ p. bind_local _ _ (λ x. bind_local _ _ (λ _. (pure_local _)) (expect_local _ (λ _. refl) refl)) (h.expr 0)) hq)

  pub call_local : {S A : Type 0} (e : Measured Expr) (g : Measured Expr → Turn S A) (q : Parser (Turn S A)) → Local q → Local (on_call P e g q)
  call_local e g q hq = on_local _ _ _ _ (λ _. refl) refl (λ _ p. name_local _ _ _ (λ n r. args_local _ _ _ (λ a. (pure_local _)) (refuse_local _)) (refuse_local _)) (args_local _ _ _ (λ a. (pure_local _)) hq)

  pub suffix_turn_local : ((s : _) → Local (suffix_turn P s))
  suffix_turn_local e = index_local e again (on_call P e again (pure (done e))) (call_local e again (pure (done e)) (pure_local _))

  pub suffixes_local : (e : Measured Expr) → Local (suffixes P e)
  unfolding suffixes
  suffixes_local e = many_local _ (suffix_shrinks P sh) suffix_turn_local e

  separated_local : (found : Measured (List Field)) → Local (separated P found)
  separated_local found = on_local _ _ _ _ (λ _. refl) refl (λ _ _. (pure_local _)) (on_local _ _ _ _ (λ _. refl) refl (λ _ _. (pure_local _)) (on_local _ _ _ _ (λ _. refl) refl (λ _ _. (pure_local _)) (refuse_local _)))

  pub named_local : (found : Measured (List Field)) (n : Bytes) (p : Place) → Local (named_field P found n p)
  unfolding named_field
  named_local found n p = on_local _ _ _ _ (λ _. refl) refl (λ _ _. bind_local _ _ (λ e. separated_local _) (h.expr 0)) (bind_local _ _ (λ e. separated_local _) (h.rest _))

  pub keyed_local : (found : Measured (List Field)) → Local (keyed_field P found)
  unfolding keyed_field
  keyed_local found =
      bind_local _ _ (λ x. bind_local _ _ (λ _. bind_local _ _ (λ _. bind_local _ _ (λ e. separated_local _) (h.expr 0)) (expect_local _ (λ _. refl) refl)) (expect_local _ (λ _. refl) refl)) (h.expr 0)

  pub field_turn_local : ((s : _) → Local (field_turn P s))
  field_turn_local found =
      on_local _ _ _ _ (λ _. refl) refl (λ _ _. (pure_local _)) (name_local _ _ _ (λ n p. named_local found n p) (on_local _ _ _ _ (λ _. refl) refl (λ _ _. keyed_local found) (bind_local _ _ (λ e. separated_local _) (h.expr 0))))

  pub table_local : (p : Place) → Local (table P p)
  unfolding table
  table_local p = bind_local _ _ (λ fs. (pure_local _)) (many_local _ (field_shrinks P sh) field_turn_local _)

  last_dots_local : (found : List (Bytes × Place)) → Local (last_dots P found)
  last_dots_local found = bind_local _ _ (λ _. (pure_local _)) (expect_local _ (λ _. refl) refl)

  pub param_turn_local : ((s : _) → Local (param_turn P s))
  param_turn_local found =
      on_local _ _ _ _ (λ _. refl) refl (λ _ _. name_local _ _ _ (λ n p. (pure_local _)) (on_local _ _ _ _ (λ _. refl) refl (λ _ _. bind_local _ _ (λ ps. (pure_local _)) (last_dots_local found)) (refuse_local _)))
      (on_local _ _ _ _ (λ _. refl) refl (λ _ _. (pure_local _)) (refuse_local _))

  pub parameters_local : (first : List (Bytes × Place)) → Local (parameters P first)
  unfolding parameters
  parameters_local first = name_local _ _ _ (λ n p. many_local _ (param_shrinks P sh) param_turn_local _) (on_local _ _ _ _ (λ _. refl) refl (λ _ _. last_dots_local first) (on_local _ _ _ _ (λ _. refl) refl (λ _ _. (pure_local _)) (refuse_local _)))

  pub body_local : (at : Place) (first : List (Bytes × Place)) → Local (function_body P at first)
  unfolding function_body
  body_local at first =
      bind_local _ _ (λ _. bind_local _ _ (λ ps. bind_local _ _ (λ b. bind_local _ _ (λ _. (pure_local _)) (expect_local _ (λ _. refl) refl)) h.block) (parameters_local first)) (expect_local _ (λ _. refl) refl)

  pub group_local : (p : Place) → Local (group P p)
  unfolding group
  group_local p = bind_local _ _ (λ e. bind_local _ _ (λ _. (pure_local _)) (expect_local _ (λ _. refl) refl)) (h.expr 0)

  pub operand_local : (here : Bool) → Local (operand P here)
  unfolding operand
  operand_local here =
      on_local _ _ _ _ (λ _. refl) refl (λ a p. (pure_local _))
      (name_local _ _ _ (λ n p. suffixes_local _)
      (on_local _ _ _ _ (λ _. refl) refl (λ _ p. bind_local _ _ suffixes_local (group_local p))
      (on_local _ _ _ _ (λ _. refl) refl (λ _ p. table_local p)
      (on_local _ _ _ _ (λ _. refl) refl (λ _ p. bind_local _ _ (λ b. (pure_local _)) (body_local p []))
      (on_local _ _ _ _ (λ _. refl) refl (λ op p. bind_local _ _ (λ e. (pure_local _)) (h.expr 11)) (refuse_local _))))))

  pub op_turn_local : (m : ℕ) → ((s : _) → Local (op_turn P m s))
  op_turn_local m x = on_local _ _ _ _ (λ _. refl) refl (λ op p. bind_local _ _ (λ y. (pure_local _)) (h.expr _)) (pure_local _)

  pub climb_local : (m : ℕ) (x : Measured Expr) → Local (climb P m x)
  unfolding climb
  climb_local m x = many_local _ (op_shrinks P sh m) (op_turn_local m) x

  pub level_local : (here : Bool) (m : ℕ) → Local (from_level P here m)
  unfolding from_level
  level_local here m = bind_local _ _ (climb_local m) (operand_local here)

  pub rest_local : (e : Measured Expr) → Local (rest_of P e)
  unfolding rest_of
  rest_local e = bind_local _ _ (climb_local 0) (suffixes_local e)
