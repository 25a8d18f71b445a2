use Rattle.lua_scope.proofs.BindingLemmas.{innermost_refers, none_global}
use Rattle.lua_scope.proofs.innermost.Goals as goal

pub returns-clause-local : goal.returns-clause-local
returns-clause-local c = innermost_refers

pub returns-clause-global : goal.returns-clause-global
returns-clause-global c = none_global
