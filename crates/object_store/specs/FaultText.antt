-- The text of each fault, with its arguments: what a script sees as the message.
use Rattle.std.specs.Prelude.{ℕ, List, ◌++◌, codes}
use Rattle.std.specs.Fmt.{decimal}
use Rattle.object_store.specs.declared.fault.LuaFault.{LuaFault}
use Rattle.object_store.specs.declared.fault.LuaFault.TheVariants as fault
use Rattle.object_store.specs.Kind.{name_of_kind}

-- the text up to its first argument, or the whole text where there is none
abbrev pub lead_of : LuaFault → List ℕ
lead_of fault.Full = codes "too many objects"
lead_of fault.ZeroDivisor = codes "division by zero"
lead_of fault.NotInteger = codes "not an integer"
lead_of fault.ZeroStep = codes "'for' step is zero"
lead_of fault.NilKey = codes "index is nil"
lead_of fault.DeadKey = codes "invalid key to 'next'"
lead_of (fault.NotCallable _) = codes "attempt to call a "
lead_of (fault.NotIndexable _) = codes "attempt to index a "
lead_of (fault.NotArith _) = codes "attempt to perform arithmetic on a "
lead_of (fault.NotBits _) = codes "attempt to perform bitwise operation on a "
lead_of (fault.NotConcat _) = codes "attempt to concatenate a "
lead_of (fault.NotLength _) = codes "attempt to get length of a "
lead_of (fault.NotOrdered _ _) = codes "attempt to compare "
lead_of fault.LongChain = codes "metatable chain too long"
lead_of fault.BadItem = codes "malformed pattern item"
lead_of fault.OpenSet = codes "malformed pattern (missing ']')"
lead_of fault.BadCapture = codes "malformed pattern (capture)"
lead_of fault.EndsWithPercent = codes "malformed pattern (ends with '%')"
lead_of fault.TooManyItems = codes "pattern too long"
lead_of (fault.BadArgument _ _) = codes "bad argument #"
lead_of fault.BadPosition = codes "position out of bounds"
lead_of fault.TextTooLong = codes "string too long"
lead_of fault.NoModule = codes "module not found"
lead_of fault.BadFormat = codes "invalid format"
lead_of fault.BadKey = codes "bad linda key"
lead_of fault.NoData = codes "no data to send"
lead_of fault.BadCount = codes "bad count"
lead_of fault.BadOption = codes "unknown option"
lead_of fault.TooManyValues = codes "too many values"
lead_of fault.BadToString = codes "'__tostring' must return a string"
lead_of fault.Protected = codes "cannot change a protected metatable"
lead_of fault.Memory = codes "out of memory"

abbrev pub fault_text : LuaFault → List ℕ
fault_text (fault.NotCallable kind) = codes "attempt to call a " ++ (name_of_kind kind
    ++ codes " value")
fault_text (fault.NotIndexable kind) = codes "attempt to index a " ++ (name_of_kind kind
    ++ codes " value")
fault_text (fault.NotArith kind) = codes "attempt to perform arithmetic on a "
    ++ (name_of_kind kind ++ codes " value")
fault_text (fault.NotBits kind) = codes "attempt to perform bitwise operation on a "
    ++ (name_of_kind kind ++ codes " value")
fault_text (fault.NotConcat kind) = codes "attempt to concatenate a " ++ (name_of_kind kind
    ++ codes " value")
fault_text (fault.NotLength kind) = codes "attempt to get length of a " ++ (name_of_kind kind
    ++ codes " value")
fault_text (fault.NotOrdered left right) = codes "attempt to compare " ++ (name_of_kind left
    ++ (codes " with " ++ name_of_kind right))
fault_text (fault.BadArgument at function) = codes "bad argument #" ++ (decimal at
    ++ (codes " to '" ++ (function ++ codes "'")))
fault_text other = lead_of other
