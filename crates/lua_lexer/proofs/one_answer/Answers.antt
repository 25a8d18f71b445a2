use Rattle.lua_lexer.proofs.Exact.{one_answer}
use Rattle.lua_lexer.proofs.one_answer.Goals as goal

pub returns : goal.returns
returns c = one_answer
