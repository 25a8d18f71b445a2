use Rattle.std.proofs.Common.{◌≡◌, ◌+◌, drop}
use Rattle.base_lib.specs.Base.{gathered}
use Rattle.base_lib.specs.Functions.{better_of, name_of_best}
use Rattle.base_lib.proofs.numbers.best_number.Given as goal

-- what is gathered from the others goes on to what is gathered from all
abbrev pub invariant-loop-i : goal.invariant-loop-i
invariant-loop-i l =
    gathered l.state.texts (name_of_best l.best) (better_of l.best) (l.i + 2) l.found (drop l.i l.value-items)
    ≡ gathered l.state.texts (name_of_best l.best) (better_of l.best) 2 l.first (drop 1 l.args)
