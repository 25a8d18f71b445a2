use Rattle.lua_meaning.specs.Run.{lost}
use Rattle.lua_builtins.proofs.lanes_table.make_table.Goals as goal

pub returns-in-Err : goal.returns-in-Err
returns-in-Err g c = λ p l s. record { leads = λ k. rw c.lose.ensures lost; stack = tt }
