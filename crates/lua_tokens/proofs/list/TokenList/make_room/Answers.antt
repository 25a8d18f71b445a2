use Rattle.lua_tokens.proofs.Joined.{begun}
use Rattle.lua_tokens.proofs.list.TokenList.make_room.Goals as goal

pub returns-in-Ok : goal.returns-in-Ok
returns-in-Ok c = rw (← c.self.view_is, ← c.replace-full.ensures.value, c.replace-full.ensures.after) (begun _ _ _ _ c.in-Ok.ensures.items c.in_ok-next.ensures.items)
