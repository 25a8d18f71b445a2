-- How a list of arguments is read, one at a time.
use Rattle.std.specs.Prelude.{List, ◌++◌, Result, Ok}
use Rattle.lanes_lib.specs.declared.ask.AskFault.{AskFault}
use Rattle.lanes_lib.specs.Face.{then_ask}

-- what was read before, and then the rest
abbrev pub onto : {A : Type 0} → List A → Result (List A) AskFault → Result (List A) AskFault
onto read rest = then_ask rest (λ more. Ok (read ++ more))
