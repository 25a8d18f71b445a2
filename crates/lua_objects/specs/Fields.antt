-- Fields of a table constructor, form by form.
use Rattle.std.specs.Prelude.{ℕ, ℤ, Option, Some, None}
use Rattle.lua_program.specs.declared.expr.RExpr.{RExpr}
use Rattle.object_store.specs.Value.{TableId}
use Rattle.lua_meaning.specs.Run.{Run, World, Next, and_then}
use Rattle.lua_meaning.specs.Level.{Loaded, Level, Frame}
use Rattle.lua_machine.specs.declared.machine.Done.{Done}
use Rattle.lua_machine.specs.declared.machine.Done.TheVariants.{Well, Failed}
use Rattle.lua_meaning.specs.Expressions.{items, set_value}

-- the key of the next item, where a part did its work
abbrev pub next_key : Done → ℤ → Option ℤ
next_key Well i = Some i
next_key Failed i = None

module _ (p : Loaded) (l : Level) (f : Frame) (line : ℕ) where
  -- `[key] = value`
  abbrev pub set_keyed : TableId → RExpr → RExpr → World → Next (Unit {0}) → Run
  set_keyed id a e w k =
      l.expr a f w (and_then k (λ key w. set_value p l f line id key e w k))

  -- all values of an expression, from this key on
  abbrev pub last_item : TableId → ℤ → RExpr → World → Next (Unit {0}) → Run
  last_item id i e w k = l.multi e f w (and_then k (λ vs w. items p l f line id i vs w k))
