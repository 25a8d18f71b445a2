use Rattle.lua_scope_tests.proofs.Ends.{tokens_end}
use Rattle.lua_scope_tests.proofs.trees.parsed.Goals as goal

pub parse-requires : goal.parse-requires
parse-requires c = tokens_end c.args.script.now c.in-Ok.found c.in-Ok.ensures.tokens
