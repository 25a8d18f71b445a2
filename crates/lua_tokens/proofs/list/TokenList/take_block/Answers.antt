use Rattle.lua_tokens.proofs.Joined.{taken_first, taken_last}
use Rattle.lua_tokens.proofs.list.TokenList.take_block.Goals as goal

pub returns-in-Some-clause-order : goal.returns-in-Some-clause-order
returns-in-Some-clause-order c = rw (← c.self.view_is) (taken_first _ _ _ _ c.in-Some.ensures.items)

pub returns-in-None-clause-order : goal.returns-in-None-clause-order
returns-in-None-clause-order c = rw (← c.self.view_is, c.replace.ensures.value, c.replace.ensures.after) (taken_last _ _ _ _ c.in-None.ensures.items c.in-None.ensures.rest c.new.ensures.items)
