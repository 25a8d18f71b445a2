-- The levels of a run. The call with which it begins stands on the first, and what a part is made
-- of or calls stands one level below it.
use Rattle.std.specs.Prelude.{ℕ, zero, suc, List, codes}
use Rattle.lua_program.specs.declared.expr.RExpr.{RExpr, out-RExpr}
use Rattle.lua_program.specs.declared.expr.RExprKind.{out-RExprKind}
use Rattle.lua_program.specs.declared.stat.RStat.{RStat, out-RStat}
use Rattle.object_store.specs.declared.value.Value.{Value}
use Rattle.lua_meaning.specs.declared.fault.Site.{Site}
use Rattle.lua_meaning.specs.Run.{Run, World, Next, and_then}
use Rattle.lua_meaning.specs.Level.{Loaded, Level, Frame, tick}
use Rattle.lua_meaning.specs.Faults.{raise}
use Rattle.lua_meaning.specs.Expressions.{expr_on, multi_on}
use Rattle.lua_meaning.specs.Statements.{stmt_on}
use Rattle.lua_meaning.specs.Calls.{call_on}

-- nothing stands past the last level; the error has no position
abbrev pub overflow : {A : Type 0} → World → Next A → Run
overflow w k = raise (codes "stack overflow") w k

abbrev pub past_last : Level
past_last = record {
  expr = λ e f w k. overflow w k;
  multi = λ e f w k. overflow w k;
  call = λ v args site w k. overflow w k;
  stmt = λ s f w k. overflow w k;
}

abbrev pub expr_at : Loaded → Level → RExpr → Frame → World → Next Value → Run
expr_at p l e f w k = expr_on p l f (out-RExpr e).line (out-RExprKind (out-RExpr e).what) w k

abbrev pub multi_at : Loaded → Level → RExpr → Frame → World → Next (List Value) → Run
multi_at p l e f w k = multi_on p l f (out-RExpr e).line (out-RExprKind (out-RExpr e).what) w k

-- the level above: each expression and each statement begins with a step
abbrev pub above : Loaded → Level → Level
above p l = record {
  expr = λ e f w k. tick w (and_then k (λ u w. expr_at p l e f w k));
  multi = λ e f w k. tick w (and_then k (λ u w. multi_at p l e f w k));
  call = λ v args site w k. call_on p l site v args w k;
  stmt = λ s f w k. tick w (and_then k (λ u w. stmt_on p l (out-RStat s) f w k));
}

-- a level from which on there are n
unfoldable pub level : Loaded → ℕ → Level
level p zero = past_last
level p (suc n) = above p (level p n)
