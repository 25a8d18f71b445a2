-- What a contract sees of the stack.
use Rattle.std.specs.Prelude.{ℕ, ◌-◌, ◌++◌, ◌∷◌, [], List, take, length, replicate}
use Rattle.object_store.specs.declared.value.Value.{Value}
use Rattle.lua_meaning.specs.Level.{CellId}

-- the values of all frames, and the cells of their captured locals
pub record Piled : Type 0 where
  pub values : List Value
  pub cells : List CellId

abbrev pub with_values : Piled → List Value → Piled
with_values s values = record s { values = values }

abbrev pub with_cells : Piled → List CellId → Piled
with_cells s cells = record s { cells = cells }

-- the first n values, and all cells
abbrev pub cut : ℕ → Piled → Piled
cut n s = with_values s (take n s.values)

-- the cell of a slot, the last of its frame
abbrev pub cells_with : ℕ → CellId → List CellId → List CellId
cells_with i c cells = take i cells ++ replicate (i - length cells) c ++ c ∷ []
