-- A run of values stands for pairs whose keys are consecutive integers.
use Rattle.std.specs.Prelude.{ℕ, ◌+◌, pos, List, [], ◌∷◌, ◌++◌}
use Rattle.object_store.specs.declared.value.Value.{Value}
use Rattle.object_store.specs.declared.value.Value.TheVariants.{Int}

-- the first value has the key i + 1, the next i + 2, and so on
abbrev pub numbered : ℕ → List Value → List (Value × Value)
numbered i [] = []
numbered i (value ∷ values) = (Int (pos (i + 1)), value) ∷ numbered (i + 1) values

-- the pairs of the keys from 1 on, and then the others
abbrev pub joined : List Value → List (Value × Value) → List (Value × Value)
joined run rest = numbered 0 run ++ rest
