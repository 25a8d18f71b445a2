use Rattle.lua_parser.proofs.Answered.{one_answer}
use Rattle.lua_parser.proofs.one_answer.Goals as goal

pub returns : goal.returns
returns c = one_answer
