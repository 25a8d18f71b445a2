-- What operators give of two integers, no metatable being asked (Lua 5.4 manual, sections 3.4.1,
-- 3.4.2 and 3.4.4).
use Rattle.std.specs.Prelude.{ℤ, Option, Some, None, Result, Ok, Err, not, int_lt}
use Rattle.std.specs.Ordering.{int_eq}
use Rattle.lua_tree.specs.declared.operator.Binary.{Binary}
use Rattle.lua_tree.specs.declared.operator.Binary.TheVariants as B
use Rattle.object_store.specs.declared.value.Value.{Value}
use Rattle.object_store.specs.declared.value.Value.TheVariants as V
use Rattle.object_store.specs.declared.fault.LuaFault.{LuaFault}
use Rattle.object_store.specs.Value.{value_of_bool}
use Rattle.lua_ops.specs.declared.step.ArithOp.TheVariants as op
use Rattle.lua_ops.specs.Metamethods.{computed}

abbrev pub integer_or_none : Result ℤ LuaFault → Option Value
integer_or_none (Ok n) = Some (V.Int n)
integer_or_none (Err fault) = None

-- none where the operator gives a string or a fault
abbrev pub plain : Binary → ℤ → ℤ → Option Value
plain B.Lt a b = Some (value_of_bool (int_lt a b))
plain B.Gt a b = Some (value_of_bool (int_lt b a))
plain B.Le a b = Some (value_of_bool (not (int_lt b a)))
plain B.Ge a b = Some (value_of_bool (not (int_lt a b)))
plain B.Ne a b = Some (value_of_bool (not (int_eq a b)))
plain B.Eq a b = Some (value_of_bool (int_eq a b))
plain B.BitOr a b = integer_or_none (computed op.BitOr a b)
plain B.BitXor a b = integer_or_none (computed op.BitXor a b)
plain B.BitAnd a b = integer_or_none (computed op.BitAnd a b)
plain B.ShiftLeft a b = integer_or_none (computed op.ShiftLeft a b)
plain B.ShiftRight a b = integer_or_none (computed op.ShiftRight a b)
plain B.Concat a b = None
plain B.Add a b = integer_or_none (computed op.Add a b)
plain B.Sub a b = integer_or_none (computed op.Sub a b)
plain B.Mul a b = integer_or_none (computed op.Mul a b)
plain B.FloorDiv a b = integer_or_none (computed op.FloorDiv a b)
plain B.Mod a b = integer_or_none (computed op.Mod a b)
