use Rattle.std.proofs.Common.{◌≡◌, ◌++◌}
use Rattle.lua_scope.proofs.texts.Texts.into_list.Given as goal

abbrev pub invariant-loop-text : goal.invariant-loop-text
invariant-loop-text l = l.list ++ l.text-iterator ≡ l.fn.self
