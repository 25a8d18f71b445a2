-- The text of each fault of scope, and the line of the script where it is.
use Rattle.std.specs.Prelude.{ℕ, List, [], ◌++◌, codes}
use Rattle.lua_scope.specs.declared.fault.ScopeFault.{ScopeFault}
use Rattle.lua_scope.specs.declared.fault.ScopeFault.TheVariants as fault

abbrev pub line_of : ScopeFault → ℕ
line_of (fault.ConstAssigned place) = place.line
line_of (fault.BreakOutside place) = place.line
line_of (fault.VarargOutside place) = place.line
line_of (fault.TooManyLocals place) = place.line
line_of (fault.EnvName place) = place.line
line_of (fault.NoLabel name place) = place.line
line_of (fault.LabelTwice name place) = place.line
line_of (fault.JumpIntoLocal place) = place.line
line_of fault.Memory = 0

-- a text is what stands before the label that it names, the label, and what stands after it
abbrev pub before_label : ScopeFault → List ℕ
before_label (fault.ConstAssigned place) = codes "assignment to a constant"
before_label (fault.BreakOutside place) = codes "break outside a loop"
before_label (fault.VarargOutside place) = codes "'...' outside a vararg function"
before_label (fault.TooManyLocals place) = codes "too many local variables"
before_label (fault.EnvName place) = codes "_ENV is not supported"
before_label (fault.NoLabel name place) = codes "no visible label '"
before_label (fault.LabelTwice name place) = codes "label '"
before_label (fault.JumpIntoLocal place) = codes "goto jumps into the scope of a local"
before_label fault.Memory = codes "not enough memory"

abbrev pub label_of : ScopeFault → List ℕ
label_of (fault.NoLabel name place) = name
label_of (fault.LabelTwice name place) = name
label_of fault = []

abbrev pub after_label : ScopeFault → List ℕ
after_label (fault.NoLabel name place) = codes "'"
after_label (fault.LabelTwice name place) = codes "' already defined"
after_label fault = []

abbrev pub text_of : ScopeFault → List ℕ
text_of fault = before_label fault ++ (label_of fault ++ after_label fault)
