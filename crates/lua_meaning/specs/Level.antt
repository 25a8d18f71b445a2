-- What parts of a program stand on: the program, the frame of their function, and the parts that
-- stand below them.
use Rattle.std.specs.Prelude.{ℕ, ◌-◌, List, Result, Ok, Err, Option, Some, None, Bool, if◌then◌else◌, nat_lt}
use Rattle.lua_program.specs.declared.expr.RExpr.{RExpr}
use Rattle.lua_program.specs.declared.stat.RStat.{RStat}
use Rattle.lua_program.specs.declared.program.Program.{Program}
use Rattle.object_store.specs.declared.value.Value.{Value}
use Rattle.object_store.specs.declared.value.Cells.{Cells}
use Rattle.lanes_arena.specs.declared.id.Id.{Id}
use Rattle.lua_meaning.specs.declared.fault.Fault.{Fault}
use Rattle.lua_meaning.specs.declared.fault.Fault.TheVariants as F
use Rattle.lua_meaning.specs.declared.fault.Site.{Site}
use Rattle.lua_meaning.specs.Run.{Run, World, Next}

-- a program, and the strings of its texts by place
pub record Loaded : Type 0 where
  pub program : Program
  pub keys : List Value

-- the number of a cell
abbrev pub CellId : Type 0
CellId = Id Cells

abbrev pub cell_id : ℕ → CellId
cell_id n = record { number = n; kind = record {} }

-- the locals of a call: values by slot, and the cells of captured locals by slot
pub record Locals : Type 0 where
  pub slots : List Value
  pub cells : List CellId

-- what a function's statements stand on: the function's number, the line of the call expression
-- that called it (0 where none did), the values of `...`, the locals
pub record Frame : Type 0 where
  pub me : ℕ
  pub from : ℕ
  pub dots : List Value
  pub locals : Locals

-- How a statement ends: with the next one, by `break`, by a `goto`, or by `return`. A goto leaves
-- so many blocks, and goes on after the statement of this place.
pub data Flow : Type 0 where
  Goes : Locals → Flow
  Breaks : Locals → Flow
  Jumps : ℕ → ℕ → Locals → Flow
  Returns : List Value → Flow

-- What stands on one level. A call is of a function with arguments, from a site.
pub record Level : Type 0 where
  pub expr : RExpr → Frame → World → Next Value → Run
  pub multi : RExpr → Frame → World → Next (List Value) → Run
  pub call : Value → List Value → Site → World → Next (List Value) → Run
  pub stmt : RStat → Frame → World → Next Flow → Run

-- one step, with which the budget may be spent
unfoldable pub tick : World → Next (Unit {0}) → Run
tick w k =
    if nat_lt w.left 2 then k (Err F.Spent) (record w { left = 0 })
    else k (Ok tt) (record w { left = w.left - 1 })

-- a place or a number that isn't there
abbrev pub or_broken : {A : Type 0} → Option A → Result A Fault
or_broken None = Err F.Broken
or_broken (Some a) = Ok a

-- a call by an operator or a `for`, which is no call expression
abbrev pub no_site : Frame → Site
no_site f = record { line = 0; outer = f.from }

abbrev pub site_at : ℕ → Frame → Site
site_at line f = record { line = line; outer = f.from }
