use Rattle.std.proofs.Common.{rules}
use Rattle.lua_parser.proofs.LocalSteps.{function_read}
use Rattle.lua_parser.proofs.parts.Parts.local_function.Goals as goal

pub returns : goal.returns
returns g c = rw (c.new-2.ensures, c.into_what.ensures) (function_read _ _ _ c.in_ok-name.place c.in_ok-name.name _ c.in_ok-body.body (search rules) (search rules))
