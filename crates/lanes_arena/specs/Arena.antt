-- What a contract sees of an arena.
use Rattle.std.specs.Prelude.{ℕ, List, slice_set}

-- the values by number, and how many more can be added without a refusal
pub record Held (T : Type 0) : Type 0 where
  pub items : List T
  pub spare : ℕ

-- with a value in the place of the one with this number
abbrev pub with_item : {T : Type 0} → Held T → ℕ → T → Held T
with_item held number value = record held { items = slice_set held.items number value }
