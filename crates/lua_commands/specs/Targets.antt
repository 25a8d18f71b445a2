-- The targets of an assignment on the stack. Each has two values there, its object and its key; for
-- a local or an upvalue both are nil.
use Rattle.std.specs.Prelude.{◌≡◌, ℕ, ◌+◌, ◌*◌, List, [], ◌∷◌, Result, Ok, Err, length, drop}
use Rattle.lua_program.specs.declared.expr.RExpr.{RExpr, out-RExpr}
use Rattle.lua_program.specs.declared.expr.RExprKind.{RExprKind, out-RExprKind}
use Rattle.lua_program.specs.declared.expr.RExprKind.TheOpen as E
use Rattle.lua_program.specs.declared.expr.RPair.{RPair}
use Rattle.lua_program.specs.declared.expr.RField.{RField}
use Rattle.lua_program.specs.declared.expr.Ref.{Ref}
use Rattle.lua_program.specs.declared.expr.Ref.TheVariants as R
use Rattle.object_store.specs.declared.value.Value.{Value}
use Rattle.lanes_lib.specs.declared.ask.Ask.{Ask}
use Rattle.lanes_lib.specs.declared.ask.Answer.{Answer}
use Rattle.lua_meaning.specs.declared.fault.Fault.{Fault}
use Rattle.lua_meaning.specs.Run.{Run, Next}
use Rattle.lua_meaning.specs.Names.{first}
use Rattle.lua_meaning.specs.Statements.{Target, Local, Field}
use Rattle.lua_machine.specs.declared.machine.Machine.{Machine}
use Rattle.lua_machine.specs.declared.machine.Done.{Done}
use Rattle.lua_machine.specs.declared.machine.Done.TheVariants.{Well, Failed}
use Rattle.lua_machine.specs.Does.{LeadsTo, OnWell, Above}

-- a name as a target
abbrev pub named : ℕ → Ref → Value → Value → Target
named line (R.Global t) object key = Field object key line
named line r object key = Local r

abbrev pub target_by : ℕ → E.RExprKind-F RExprKind RField RExpr RPair → Value → Value → Target
target_by line (E.Name r place) object key = named line r object key
target_by line e object key = Field object key line

-- the target of an expression, by its two values
abbrev pub target_of : RExpr → Value → Value → Target
target_of e object key =
    target_by (out-RExpr e).line (out-RExprKind (out-RExpr e).what) object key

-- the targets of expressions, by the values of all of them
abbrev pub targets_of : List RExpr → List Value → List Target
targets_of [] vs = []
targets_of (e ∷ es) vs = target_of e (first vs) (first (drop 1 vs)) ∷ targets_of es (drop 2 vs)

-- ---- what pushes targets promises

-- a target by its two values, which are the last on the stack
abbrev pub held : {H : Type 0} → Done → (Value → Value → Target) → ℕ → Machine H →
    Result Target Fault
held Well of n m = Ok (of (first (drop n m.stack.values)) (first (drop 1 (drop n m.stack.values))))
held Failed of n m = Err m.fault

abbrev pub all_held : {H : Type 0} → Done → List RExpr → ℕ → Machine H → Result (List Target) Fault
all_held Well es n m = Ok (targets_of es (drop n m.stack.values))
all_held Failed es n m = Err m.fault

module _ {H : Type 0} (asked : H → Ask → Answer → H → Type 0) where
  -- a target has its two values on the stack, or failed
  pub record TargetOf (meaning : Next Target → Run) (of : Value → Value → Target) (m : Machine H)
      (r : Done) (m1 : Machine H) : Type 0 where
    pub leads : LeadsTo asked m meaning m1 (held r of (length m.stack.values) m1)
    pub stack : OnWell r (Above (length m.stack.values) m.stack m1.stack)
    pub count : OnWell r (length m1.stack.values ≡ length m.stack.values + 2)

  -- the targets have their values on the stack, or one failed
  pub record TargetsOf (meaning : Next (List Target) → Run) (es : List RExpr) (m : Machine H)
      (r : Done) (m1 : Machine H) : Type 0 where
    pub leads : LeadsTo asked m meaning m1 (all_held r es (length m.stack.values) m1)
    pub stack : OnWell r (Above (length m.stack.values) m.stack m1.stack)
    pub count : OnWell r (length m1.stack.values ≡ length m.stack.values + 2 * length es)
