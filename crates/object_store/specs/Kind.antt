-- The types of values (Lua 5.4 manual, sections 2.1 and 6.1, `type`).
use Rattle.std.specs.Prelude.{ℕ, List, codes}
use Rattle.object_store.specs.declared.value.Value.{Value}
use Rattle.object_store.specs.declared.value.Value.TheVariants.{Nil, False, True, Int, Str, Table, Func, Lib, Linda, Lane, Light}
use Rattle.object_store.specs.declared.kind.Kind.{Kind}
use Rattle.object_store.specs.declared.kind.Kind.TheVariants as kind

abbrev pub kind_of : Value → Kind
kind_of Nil = kind.Nil
kind_of False = kind.Boolean
kind_of True = kind.Boolean
kind_of (Int _) = kind.Number
kind_of (Str _) = kind.Text
kind_of (Table _) = kind.Table
kind_of (Func _) = kind.Function
kind_of (Lib _) = kind.Function
kind_of (Linda _) = kind.Userdata
kind_of (Lane _) = kind.Userdata
kind_of (Light _) = kind.Userdata

-- the bytes of the name that `type` gives
abbrev pub name_of_kind : Kind → List ℕ
name_of_kind kind.Nil = codes "nil"
name_of_kind kind.Boolean = codes "boolean"
name_of_kind kind.Number = codes "number"
name_of_kind kind.Text = codes "string"
name_of_kind kind.Table = codes "table"
name_of_kind kind.Function = codes "function"
name_of_kind kind.Userdata = codes "userdata"
