-- What one turn gives in the loops that read the indexes and calls of a target and of the beginning of a statement.
use Rattle.std.proofs.Common.{◌≡◌, ◌∙◌, ap, ℕ, ◌-◌, ◌<◌, true, false, List, length, Ok, Err}
use Rattle.lua_tokens.specs.declared.token.Token.{Token}
use Rattle.lua_tree.specs.declared.expr.Expr.{Expr}
use Rattle.lua_tree.specs.declared.stat.Stat.TheVariants as st
use Rattle.lua_grammar.specs.declared.measured.Measured.{Measured}
use Rattle.lua_grammar.specs.declared.measured.Prefix.{Prefix}
use Rattle.lua_grammar.specs.declared.measured.Ends.TheVariants as ends
use Rattle.lua_grammar.specs.Input.{Stop, bad, and_then, pure, again, done, many}
use Rattle.lua_grammar.specs.Expressions.{measured, only}
use Rattle.lua_grammar.specs.Statements as spec
use Rattle.lua_grammar.specs.Statements.{parts}
use Rattle.lua_grammar.proofs.Loops.{Shrinks}
use Rattle.lua_grammar.proofs.Shorter as shorter
use Rattle.lua_grammar.proofs.Shorter.{parts_shorter}
use Rattle.lua_parser.specs.Steps.{over}
use Rattle.lua_parser.proofs.NextFound.{many_stops}
use Rattle.std.proofs.Common.{sym, subst}
use Rattle.lua_grammar.specs.declared.measured.Ends.{Ends}
use Rattle.lua_grammar.specs.Expressions.{on_call}
use Rattle.lua_grammar.proofs.Loops.{AtTurn, many_again, many_done}
use Rattle.lua_parser.specs.Steps.{index_step, call_step}
use Rattle.lua_parser.specs.Looks.{suffix_at}
use Rattle.lua_parser.proofs.SuffixTurns.{none_indexed, none_called}
use Rattle.lua_parser.proofs.SuffixSteps.{by_step, index_by, call_by, index_kept, call_kept}

abbrev pub start : Measured Expr → Ends → Prefix
start e w = record { expr = e; ends = w }

target_loop_shrinks : (d : ℕ) → Shrinks (over d spec.target_turn)
target_loop_shrinks d = shorter.target_shrinks _ _ _ (parts_shorter d) (parts_shorter (d - 1)) (parts_shorter (d - 2))

module _ (d : ℕ) (e : Measured Expr) (w : Ends) (ts : List Token) where
  target_by_index : over d spec.target_turn (start e w) ts
      ≡ and_then (index_step (parts (d - 1)) e ts) (by_step (λ x. again (spec.as_variable x)) (on_call (parts (d - 2)) e (λ x. again (spec.as_call x)) (pure (done (start e w)))))
  target_by_index = (index_by (parts (d - 1)) e _ _).by ts

  target_moved : (x : Measured Expr) (us : List Token) → index_step (parts (d - 1)) e ts ≡ Ok ((x, true), us) → over d spec.target_turn (start e w) ts ≡ Ok (again (spec.as_variable x), us)
  target_moved x us h = target_by_index ∙ ap (λ r. and_then r (by_step (λ x. again (spec.as_variable x)) (on_call (parts (d - 2)) e (λ x. again (spec.as_call x)) (pure (done (start e w)))))) h

  target_by_call : (x : Measured Expr) (us : List Token) → index_step (parts (d - 1)) e ts ≡ Ok ((x, false), us)
      → over d spec.target_turn (start e w) ts ≡ and_then (call_step (parts (d - 2)) x us) (by_step (λ y. again (spec.as_call y)) (pure (done (start e w))))
  target_by_call x us h = target_by_index
      ∙ ap (λ r. and_then r (by_step (λ x. again (spec.as_variable x)) (on_call (parts (d - 2)) e (λ x. again (spec.as_call x)) (pure (done (start e w)))))) h
      ∙ (call_by (parts (d - 2)) e _ _).by us
      ∙ ap (λ z. and_then (call_step (parts (d - 2)) z us) (by_step (λ y. again (spec.as_call y)) (pure (done (start e w))))) (sym (index_kept (parts (d - 1)) e ts us x h))

  target_called : (x y : Measured Expr) (us vs : List Token) → index_step (parts (d - 1)) e ts ≡ Ok ((x, false), us) → call_step (parts (d - 2)) x us ≡ Ok ((y, true), vs)
      → over d spec.target_turn (start e w) ts ≡ Ok (again (spec.as_call y), vs)
  target_called x y us vs h f = target_by_call x us h ∙ ap (λ r. and_then r (by_step (λ y. again (spec.as_call y)) (pure (done (start e w))))) f

  target_over : (x y : Measured Expr) (us vs : List Token) → index_step (parts (d - 1)) e ts ≡ Ok ((x, false), us) → call_step (parts (d - 2)) x us ≡ Ok ((y, false), vs)
      → many (over d spec.target_turn) (start e w) ts ≡ Ok (start y w, vs)
  target_over x y us vs h f =
      many_done _ (target_loop_shrinks d) (start e w) ts vs (start e w) (target_by_call x us h ∙ ap (λ r. and_then r (by_step (λ y. again (spec.as_call y)) (pure (done (start e w))))) f)
      ∙ ap (λ z. Ok (start z w, vs)) (sym (index_kept (parts (d - 1)) e ts us x h) ∙ sym (call_kept (parts (d - 2)) x us vs y f))

  pub target_index : (x : Measured Expr) (us : List Token) → index_step (parts (d - 1)) e ts ≡ Ok ((x, true), us) → over d spec.target_from (start e w) ts ≡ over d spec.target_from (start x ends.Variable) us
  unfolding spec.target_from
  target_index x us h = ap (λ r. and_then r (λ y. over d spec.needs_variable y.ends y.expr)) (many_again _ (target_loop_shrinks d) (start e w) (spec.as_variable x) ts us (target_moved x us h))

  pub target_index_stops : (stop : Stop) → index_step (parts (d - 1)) e ts ≡ Err stop → over d spec.target_from (start e w) ts ≡ Err stop
  unfolding spec.target_from
  target_index_stops stop h = ap (λ r. and_then r (λ y. over d spec.needs_variable y.ends y.expr)) (many_stops _ (target_loop_shrinks d) (start e w) ts _ _ stop target_by_index h)

  pub target_index_less : (x : Measured Expr) (us : List Token) → index_step (parts (d - 1)) e ts ≡ Ok ((x, true), us) → length us < length ts
  target_index_less x us h = subst (λ r. AtTurn r ts) (target_moved x us h) (target_loop_shrinks d (start e w) ts)

  pub target_call : (x y : Measured Expr) (us vs : List Token) → index_step (parts (d - 1)) e ts ≡ Ok ((x, false), us) → call_step (parts (d - 2)) x us ≡ Ok ((y, true), vs)
      → over d spec.target_from (start e w) ts ≡ over d spec.target_from (start y ends.Call) vs
  unfolding spec.target_from
  target_call x y us vs h f = ap (λ r. and_then r (λ y. over d spec.needs_variable y.ends y.expr)) (many_again _ (target_loop_shrinks d) (start e w) (spec.as_call y) ts vs (target_called x y us vs h f))

  pub target_call_stops : (x : Measured Expr) (us : List Token) (stop : Stop) → index_step (parts (d - 1)) e ts ≡ Ok ((x, false), us) → call_step (parts (d - 2)) x us ≡ Err stop → over d spec.target_from (start e w) ts ≡ Err stop
  unfolding spec.target_from
  target_call_stops x us stop h f = ap (λ r. and_then r (λ y. over d spec.needs_variable y.ends y.expr)) (many_stops _ (target_loop_shrinks d) (start e w) ts _ _ stop (target_by_call x us h) f)

  pub target_call_less : (x y : Measured Expr) (us vs : List Token) → index_step (parts (d - 1)) e ts ≡ Ok ((x, false), us) → call_step (parts (d - 2)) x us ≡ Ok ((y, true), vs) → length vs < length ts
  target_call_less x y us vs h f = subst (λ r. AtTurn r ts) (target_called x y us vs h f) (target_loop_shrinks d (start e w) ts)

module _ (d : ℕ) (e x y : Measured Expr) (ts us vs : List Token) where
  pub target_end : index_step (parts (d - 1)) e ts ≡ Ok ((x, false), us) → call_step (parts (d - 2)) x us ≡ Ok ((y, false), vs) → over d spec.target_from (start e ends.Variable) ts ≡ Ok (y, vs)
  unfolding spec.target_from
  target_end h f = ap (λ r. and_then r (λ y. over d spec.needs_variable y.ends y.expr)) (target_over d e ends.Variable ts x y us vs h f)

  pub target_is_call : index_step (parts (d - 1)) e ts ≡ Ok ((x, false), us) → call_step (parts (d - 2)) x us ≡ Ok ((y, false), vs) → over d spec.target_from (start e ends.Call) ts ≡ Err (bad, vs)
  unfolding spec.target_from
  target_is_call h f = ap (λ r. and_then r (λ y. over d spec.needs_variable y.ends y.expr)) (target_over d e ends.Call ts x y us vs h f)

  pub target_is_group : index_step (parts (d - 1)) e ts ≡ Ok ((x, false), us) → call_step (parts (d - 2)) x us ≡ Ok ((y, false), vs) → over d spec.target_from (start e ends.Group) ts ≡ Err (bad, vs)
  unfolding spec.target_from
  target_is_group h f = ap (λ r. and_then r (λ y. over d spec.needs_variable y.ends y.expr)) (target_over d e ends.Group ts x y us vs h f)

pub ruleset target_from_rules = (target_index, target_index_stops, target_index_less, target_call, target_call_stops, target_call_less, target_end, target_is_call, target_is_group)

prefix_loop_shrinks : (d : ℕ) → Shrinks (over d spec.prefix_turn)
prefix_loop_shrinks d = shorter.prefix_shrinks _ _ _ (parts_shorter d) (parts_shorter (d - 1)) (parts_shorter (d - 2))

module _ (d : ℕ) (e : Measured Expr) (w : Ends) (ts : List Token) where
  prefix_by_index : over d spec.prefix_turn (start e w) ts
      ≡ and_then (index_step (parts (d - 1)) e ts) (by_step (λ x. again (spec.as_variable x)) (on_call (parts (d - 1)) e (λ x. again (spec.as_call x)) (pure (done (start e w)))))
  prefix_by_index = (index_by (parts (d - 1)) e _ _).by ts

  prefix_moved : (x : Measured Expr) (us : List Token) → index_step (parts (d - 1)) e ts ≡ Ok ((x, true), us) → over d spec.prefix_turn (start e w) ts ≡ Ok (again (spec.as_variable x), us)
  prefix_moved x us h = prefix_by_index ∙ ap (λ r. and_then r (by_step (λ x. again (spec.as_variable x)) (on_call (parts (d - 1)) e (λ x. again (spec.as_call x)) (pure (done (start e w)))))) h

  prefix_by_call : (x : Measured Expr) (us : List Token) → index_step (parts (d - 1)) e ts ≡ Ok ((x, false), us)
      → over d spec.prefix_turn (start e w) ts ≡ and_then (call_step (parts (d - 1)) x us) (by_step (λ y. again (spec.as_call y)) (pure (done (start e w))))
  prefix_by_call x us h = prefix_by_index
      ∙ ap (λ r. and_then r (by_step (λ x. again (spec.as_variable x)) (on_call (parts (d - 1)) e (λ x. again (spec.as_call x)) (pure (done (start e w)))))) h
      ∙ (call_by (parts (d - 1)) e _ _).by us
      ∙ ap (λ z. and_then (call_step (parts (d - 1)) z us) (by_step (λ y. again (spec.as_call y)) (pure (done (start e w))))) (sym (index_kept (parts (d - 1)) e ts us x h))

  prefix_called : (x y : Measured Expr) (us vs : List Token) → index_step (parts (d - 1)) e ts ≡ Ok ((x, false), us) → call_step (parts (d - 1)) x us ≡ Ok ((y, true), vs)
      → over d spec.prefix_turn (start e w) ts ≡ Ok (again (spec.as_call y), vs)
  prefix_called x y us vs h f = prefix_by_call x us h ∙ ap (λ r. and_then r (by_step (λ y. again (spec.as_call y)) (pure (done (start e w))))) f

  prefix_over : (x y : Measured Expr) (us vs : List Token) → index_step (parts (d - 1)) e ts ≡ Ok ((x, false), us) → call_step (parts (d - 1)) x us ≡ Ok ((y, false), vs)
      → many (over d spec.prefix_turn) (start e w) ts ≡ Ok (start y w, vs)
  prefix_over x y us vs h f =
      many_done _ (prefix_loop_shrinks d) (start e w) ts vs (start e w) (prefix_by_call x us h ∙ ap (λ r. and_then r (by_step (λ y. again (spec.as_call y)) (pure (done (start e w))))) f)
      ∙ ap (λ z. Ok (start z w, vs)) (sym (index_kept (parts (d - 1)) e ts us x h) ∙ sym (call_kept (parts (d - 1)) x us vs y f))

  pub prefix_index : (x : Measured Expr) (us : List Token) → index_step (parts (d - 1)) e ts ≡ Ok ((x, true), us) → over d spec.prefixes (start e w) ts ≡ over d spec.prefixes (start x ends.Variable) us
  unfolding spec.prefixes
  prefix_index x us h = many_again _ (prefix_loop_shrinks d) (start e w) (spec.as_variable x) ts us (prefix_moved x us h)

  pub prefix_index_stops : (stop : Stop) → index_step (parts (d - 1)) e ts ≡ Err stop → over d spec.prefixes (start e w) ts ≡ Err stop
  unfolding spec.prefixes
  prefix_index_stops stop h = many_stops _ (prefix_loop_shrinks d) (start e w) ts _ _ stop prefix_by_index h

  pub prefix_index_less : (x : Measured Expr) (us : List Token) → index_step (parts (d - 1)) e ts ≡ Ok ((x, true), us) → length us < length ts
  prefix_index_less x us h = subst (λ r. AtTurn r ts) (prefix_moved x us h) (prefix_loop_shrinks d (start e w) ts)

  pub prefix_call : (x y : Measured Expr) (us vs : List Token) → index_step (parts (d - 1)) e ts ≡ Ok ((x, false), us) → call_step (parts (d - 1)) x us ≡ Ok ((y, true), vs)
      → over d spec.prefixes (start e w) ts ≡ over d spec.prefixes (start y ends.Call) vs
  unfolding spec.prefixes
  prefix_call x y us vs h f = many_again _ (prefix_loop_shrinks d) (start e w) (spec.as_call y) ts vs (prefix_called x y us vs h f)

  pub prefix_call_stops : (x : Measured Expr) (us : List Token) (stop : Stop) → index_step (parts (d - 1)) e ts ≡ Ok ((x, false), us) → call_step (parts (d - 1)) x us ≡ Err stop → over d spec.prefixes (start e w) ts ≡ Err stop
  unfolding spec.prefixes
  prefix_call_stops x us stop h f = many_stops _ (prefix_loop_shrinks d) (start e w) ts _ _ stop (prefix_by_call x us h) f

  pub prefix_call_less : (x y : Measured Expr) (us vs : List Token) → index_step (parts (d - 1)) e ts ≡ Ok ((x, false), us) → call_step (parts (d - 1)) x us ≡ Ok ((y, true), vs) → length vs < length ts
  prefix_call_less x y us vs h f = subst (λ r. AtTurn r ts) (prefix_called x y us vs h f) (prefix_loop_shrinks d (start e w) ts)

module _ (d : ℕ) (e x y : Measured Expr) (w : Ends) (ts us vs : List Token) where
  pub prefix_end : index_step (parts (d - 1)) e ts ≡ Ok ((x, false), us) → call_step (parts (d - 1)) x us ≡ Ok ((y, false), vs) → over d spec.prefixes (start e w) ts ≡ Ok (start y w, vs)
  unfolding spec.prefixes
  prefix_end h f = prefix_over d e w ts x y us vs h f

module _ (d : ℕ) (e : Measured Expr) (w : Ends) (ts : List Token) where
  pub prefix_none : suffix_at ts ≡ false → over d spec.prefixes (start e w) ts ≡ Ok (start e w, ts)
  prefix_none n = prefix_end d e e e w ts ts ts (none_indexed (d - 1) e ts n) (none_called (d - 1) e ts n)

pub ruleset prefix_rules = (prefix_index, prefix_index_stops, prefix_index_less, prefix_call, prefix_call_stops, prefix_call_less, prefix_end, prefix_none)

-- ---- a statement that begins so

module _ (d : ℕ) (x y : Prefix) (ts us : List Token) where
  at_prefix : over d spec.prefixes x ts ≡ Ok (y, us) → over d spec.begun x ts ≡ over d spec.finished y.ends y.expr us
  unfolding spec.begun
  at_prefix h = ap (λ r. and_then r (λ y. over d spec.finished y.ends y.expr)) h

  pub begun_variable : over d spec.prefixes x ts ≡ Ok (y, us) → y.ends ≡ ends.Variable → over d spec.begun x ts ≡ over d spec.assigned (only y.expr) us
  begun_variable h e = at_prefix h ∙ ap (λ w. over d spec.finished w y.expr us) e

  pub begun_call : over d spec.prefixes x ts ≡ Ok (y, us) → y.ends ≡ ends.Call → over d spec.begun x ts ≡ Ok (measured (st.Call y.expr.what) y.expr.depth, us)
  begun_call h e = at_prefix h ∙ ap (λ w. over d spec.finished w y.expr us) e

  pub begun_group : over d spec.prefixes x ts ≡ Ok (y, us) → y.ends ≡ ends.Group → over d spec.begun x ts ≡ Err (bad, us)
  begun_group h e = at_prefix h ∙ ap (λ w. over d spec.finished w y.expr us) e

pub begun_stops : (d : ℕ) (x : Prefix) (ts : List Token) (stop : Stop) → over d spec.prefixes x ts ≡ Err stop → over d spec.begun x ts ≡ Err stop
unfolding spec.begun
begun_stops d x ts stop h = ap (λ r. and_then r (λ y. over d spec.finished y.ends y.expr)) h

pub ruleset begun_rules = (begun_variable, begun_call, begun_group, begun_stops)
