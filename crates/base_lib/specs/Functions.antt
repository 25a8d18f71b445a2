-- The names of the functions that call nothing back, and which of two numbers `max` and `min` take.
use Rattle.std.specs.Prelude.{ℕ, ℤ, List, codes}
use Rattle.base_lib.specs.declared.functions.BaseFn.{BaseFn}
use Rattle.base_lib.specs.declared.functions.BaseFn.TheVariants as fn
use Rattle.base_lib.specs.declared.numbers.Best.{Best}
use Rattle.base_lib.specs.declared.numbers.Best.TheVariants as best
use Rattle.base_lib.specs.Base.{greater, lesser}

abbrev pub name_of : BaseFn → List ℕ
name_of fn.GetMetatable = codes "getmetatable"
name_of fn.Ipairs = codes "ipairs"
name_of fn.Next = codes "next"
name_of fn.RawEqual = codes "rawequal"
name_of fn.RawGet = codes "rawget"
name_of fn.RawLen = codes "rawlen"
name_of fn.RawSet = codes "rawset"
name_of fn.Select = codes "select"
name_of fn.SetMetatable = codes "setmetatable"
name_of fn.ToNumber = codes "tonumber"
name_of fn.Type = codes "type"
name_of fn.Abs = codes "abs"
name_of fn.Floor = codes "floor"
name_of fn.Max = codes "max"
name_of fn.Min = codes "min"
name_of fn.ToInteger = codes "tointeger"
name_of fn.MathType = codes "type"
name_of fn.Ult = codes "ult"

abbrev pub better_of : Best → ℤ → ℤ → ℤ
better_of best.Greatest = greater
better_of best.Least = lesser

abbrev pub name_of_best : Best → List ℕ
name_of_best best.Greatest = codes "max"
name_of_best best.Least = codes "min"
