-- Conditions that are evaluated without a value (Lua 5.4 manual, sections 3.3.4, 3.4.4 and 3.4.5).
use Rattle.std.specs.Prelude.{ℕ, Bool, Ok}
use Rattle.lua_tree.specs.declared.operator.Binary.{Binary}
use Rattle.lua_program.specs.declared.expr.RExpr.{RExpr}
use Rattle.lua_program.specs.declared.expr.RExprKind.{RExprKind}
use Rattle.lua_program.specs.declared.expr.RExprKind.TheOpen as E
use Rattle.lua_program.specs.declared.expr.RPair.{RPair}
use Rattle.lua_program.specs.declared.expr.RField.{RField}
use Rattle.object_store.specs.declared.value.Value.{Value}
use Rattle.lua_meaning.specs.Run.{Run, World, Next, and_then}
use Rattle.lua_meaning.specs.Level.{Loaded, Level, Frame, no_site}
use Rattle.lua_meaning.specs.Names.{is_true}
use Rattle.lua_meaning.specs.Operate.{binary}
use Rattle.lua_meaning.specs.Expressions.{operated, either}

-- goes on with whether a value is true
unfoldable pub judged : Next Bool → Next Value
judged k = and_then k (λ v w. k (Ok (is_true v)) w)

-- whether an operator of these two operands gives a true value
unfoldable pub operator_tested : Loaded → Level → Frame → ℕ → Binary → E.RPair-F RExprKind RField
    RExpr RPair → World → Next Bool → Run
operator_tested p l f line op two w k =
    operated p l f line two (binary p l line (no_site f) op) w (judged k)

-- whether `or` of these two operands gives a true value, or `and`
unfoldable pub either_tested : Loaded → Level → Frame → Bool → E.RPair-F RExprKind RField RExpr
    RPair → World → Next Bool → Run
either_tested p l f stops two w k = either p l f 0 stops two w (judged k)
