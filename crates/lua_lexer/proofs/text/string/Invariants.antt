use Rattle.std.proofs.Common.{◌++◌, length, List, ℕ}
use Rattle.lua_lexer.specs.declared.stop.Why.{Why}
use Rattle.lua_lexer.specs.Spellings.{Quoted, Broken}
use Rattle.lua_lexer.proofs.text.string.Given as goal

abbrev pub invariant-loop-found : goal.invariant-loop-found
invariant-loop-found l = record { good : (value rest : List ℕ) → Quoted l.quote l.left value rest → Quoted l.quote l.fn.bytes (l.found.items ++ value) rest; bad : (stop : Why × List ℕ) → Broken l.at l.quote l.left stop → Broken l.at l.quote l.fn.bytes stop }

abbrev pub decreases-loop-found : goal.decreases-loop-found
decreases-loop-found l = length l.left
