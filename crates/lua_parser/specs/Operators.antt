-- A binary operator as the grammar has it.
use Rattle.std.specs.Prelude.{Option, Some, None, Result, Ok, Err}
use Rattle.lua_tokens.specs.declared.place.Place.{Place}
use Rattle.lua_tree.specs.declared.operator.Binary.{Binary}
use Rattle.lua_parser.specs.declared.operator.Operator.{Operator}
use Rattle.lua_parser.specs.declared.operator.Operator.TheVariants as o
use Rattle.lua_parser.specs.declared.stop.Stop.{Stop}
use Rattle.lua_grammar.specs.Tokens.{Op, or, and, plain}

abbrev pub op : Operator → Op
op o.Or = or
op o.And = and
op (o.Plain b) = plain b

abbrev pub maybe_op : Option Operator → Option Op
maybe_op None = None
maybe_op (Some x) = Some (op x)

abbrev pub maybe_binary : Option Binary → Option Op
maybe_binary None = None
maybe_binary (Some x) = Some (plain x)

-- of an operator that was looked for
abbrev pub found_op : Result (Option (Operator × Place)) Stop → Result (Option (Op × Place)) Stop
found_op (Ok None) = Ok None
found_op (Ok (Some x)) = Ok (Some (op x.0, x.1))
found_op (Err stop) = Err stop
