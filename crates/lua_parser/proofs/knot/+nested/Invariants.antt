use Rattle.lua_parser.proofs.knot.+nested.Given as goal

abbrev pub decreases-nested_part : goal.decreases-nested_part
decreases-nested_part l = l.depth

abbrev pub decreases-nested_block : goal.decreases-nested_block
decreases-nested_block l = l.depth
