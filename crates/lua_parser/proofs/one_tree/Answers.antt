use Rattle.lua_grammar.proofs.CompleteScript.{one_tree}
use Rattle.lua_parser.proofs.one_tree.Goals as goal

pub returns : goal.returns
returns c = one_tree
