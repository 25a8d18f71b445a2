-- Statements over one expression, as parts of those over lists.
use Rattle.std.specs.Prelude.{ℕ, Ok}
use Rattle.lua_program.specs.declared.expr.RExpr.{RExpr}
use Rattle.lua_program.specs.declared.expr.Ref.{Ref}
use Rattle.object_store.specs.declared.value.Value.{Value}
use Rattle.lua_meaning.specs.Run.{Run, World, Next, and_then}
use Rattle.lua_meaning.specs.Level.{Loaded, Level, Frame, Locals, Flow, Returns, no_site}
use Rattle.lua_meaning.specs.Operate.{set}
use Rattle.lua_meaning.specs.Expressions.{limited}
use Rattle.lua_meaning.specs.Statements.{Target, Field, target, store, declare}
use Rattle.lua_machine.specs.declared.machine.Done.{Done}
use Rattle.lua_machine.specs.declared.machine.Done.TheVariants.{Well, Failed}
use Rattle.lua_machine.specs.declared.machine.FlowTag.{FlowTag}
use Rattle.lua_machine.specs.declared.machine.FlowTag.TheVariants as tag

module _ (p : Loaded) (l : Level) (f : Frame) where
  -- `object[key]` as a target
  abbrev pub pair_target : ℕ → RExpr → RExpr → World → Next Target → Run
  pair_target line object key w k =
      l.expr object f w (and_then k (λ object w.
      l.expr key f w (and_then k (λ key w. k (Ok (Field object key line)) w))))

  -- `object[key] = value`; the locals stay
  abbrev pub field_set : ℕ → Value → Value → Value → World → Next Locals → Run
  field_set line object key v w k =
      set p l line (no_site f) object key v w (and_then k (λ u w. k (Ok f.locals) w))

  -- the value of an expression comes into a target
  abbrev pub stored : RExpr → Target → World → Next Locals → Run
  stored e t w k = l.expr e f w (and_then k (λ v w. store p l f t v w k))

  -- the same, unless the target has a fault
  abbrev pub stored_in : RExpr → Next Locals → Next Target
  stored_in e k = and_then k (λ t w. stored e t w k)

  -- one expression is assigned to `object[key]`
  abbrev pub assigned_field : ℕ → RExpr → RExpr → RExpr → World → Next Locals → Run
  assigned_field line object key e w k =
      l.expr object f w (and_then k (λ object w.
      l.expr key f w (and_then k (λ key w. stored e (Field object key line) w k))))

  -- one expression is assigned to one target
  abbrev pub assigned_one : RExpr → RExpr → World → Next Locals → Run
  assigned_one t e w k = target p l t f w (stored_in e k)

  -- one local is declared with the value of an expression
  abbrev pub declared_one : Ref → RExpr → World → Next Locals → Run
  declared_one r e w k = l.expr e f w (and_then k (λ v w. declare p f r v w k))

  -- all values of one expression are returned
  abbrev pub returned_one : RExpr → World → Next Flow → Run
  returned_one e w k =
      l.multi e f w (and_then k (λ vs w. limited p 0 vs w (and_then k (λ vs w. k (Ok (Returns
      vs)) w))))

-- a statement that did its work goes on with the next one
abbrev pub flow_by : Done → FlowTag
flow_by Well = tag.Goes
flow_by Failed = tag.Fails
