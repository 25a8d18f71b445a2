-- Leaves: expressions without parts that have a value of their own (Lua 5.4 manual, section 3.4).
use Rattle.std.specs.Prelude.{Option, Some, None, Result, Ok, Err, slice_get}
use Rattle.lua_program.specs.declared.expr.RExpr.{RExpr}
use Rattle.lua_program.specs.declared.expr.RExprKind.{RExprKind}
use Rattle.lua_program.specs.declared.expr.RExprKind.TheOpen as E
use Rattle.lua_program.specs.declared.expr.RPair.{RPair}
use Rattle.lua_program.specs.declared.expr.RField.{RField}
use Rattle.object_store.specs.declared.value.Value.{Value}
use Rattle.object_store.specs.declared.value.Value.TheVariants as V
use Rattle.object_store.specs.Heap.{Heap}
use Rattle.lua_meaning.specs.declared.fault.Fault.{Fault}
use Rattle.lua_meaning.specs.Level.{Loaded, Frame}
use Rattle.lua_meaning.specs.Names.{local_value}

abbrev pub value_if : Result Value Fault → Option Value
value_if (Ok v) = Some v
value_if (Err e) = None

-- the value of an integer, of a text, of a local or an upvalue, where it is there
abbrev pub leaf_value : Loaded → Heap → Frame → E.RExprKind-F RExprKind RField RExpr RPair →
    Option Value
leaf_value p heap f (E.Int n) = Some (V.Int n)
leaf_value p heap f (E.Text t place) = slice_get p.keys place
leaf_value p heap f (E.Name r place) = value_if (local_value heap f r)
leaf_value p heap f e = None
