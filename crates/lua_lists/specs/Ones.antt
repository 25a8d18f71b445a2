-- The front of a list of expressions.
use Rattle.std.specs.Prelude.{List, [], ◌∷◌, ◌++◌, Ok}
use Rattle.lua_program.specs.declared.expr.RExpr.{RExpr}
use Rattle.object_store.specs.declared.value.Value.{Value}
use Rattle.lua_meaning.specs.Run.{Run, World, Next, and_then}
use Rattle.lua_meaning.specs.Level.{Level, Frame}

-- further values, one of each expression
abbrev pub ones : Level → List Value → List RExpr → Frame → World → Next (List Value) → Run
ones l vs [] f w k = k (Ok vs) w
ones l vs (e ∷ es) f w k = l.expr e f w (and_then k (λ v w. ones l (vs ++ v ∷ []) es f w k))
