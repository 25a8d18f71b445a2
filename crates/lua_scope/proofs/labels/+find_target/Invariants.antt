use Rattle.std.proofs.Common.{length}
use Rattle.lua_scope.proofs.labels.+find_target.Given as goal

abbrev pub decreases-find_target : goal.decreases-find_target
decreases-find_target l = length l.blocks.now
