-- The registry of a state's marks. A mark is the number of the state that made it and the number of
-- the table there; where a table of this state stands for a marked one, the two are a pair.
use Rattle.std.specs.Prelude.{◌≡◌, ℕ, ◌<◌, Bool, nat_eq, if◌then◌else◌, is_some, List, [], ◌∷◌, ◌++◌, map, take, All, Option}
use Rattle.std.specs.List.{IsDistinct}
use Rattle.std.specs.Map.{lookup, keys_of, values_of}
use Rattle.lanes_arena.specs.declared.code.Mark.{Mark}
use Rattle.lanes_arena.specs.contracts.code.MarkPartialEq.TheImpl.{eq-value}

-- whether two marks are one: the same state and the same number
abbrev pub mark_eq : Mark → Mark → Bool
mark_eq = eq-value.it

-- the number of the state, and its pairs of a mark and the number of a table, in the order in which
-- they were added
pub record Registry : Type 0 where
  pub state : ℕ
  pub pairs : List (Mark × ℕ)

-- the table that a mark stands for
abbrev pub table_of : Registry → Mark → Option ℕ
table_of registry mark = lookup (mark_eq mark) registry.pairs

abbrev pub turned : Mark × ℕ → ℕ × Mark
turned pair = (pair.1, pair.0)

-- the mark of a table
abbrev pub mark_of : Registry → ℕ → Option Mark
mark_of registry table = lookup (nat_eq table) (map turned registry.pairs)

-- the mark that this state makes for a table of its own
abbrev pub own_mark : Registry → ℕ → Mark
own_mark registry table = record { state = registry.state; table = table }

-- with a further pair, the last one
abbrev pub with_pair : Registry → Mark → ℕ → Registry
with_pair registry mark table = record registry {
  pairs = registry.pairs ++ (mark, table) ∷ [];
}

-- once the table has a mark: the one that it had, else this state's own
abbrev pub with_mark : Registry → ℕ → Registry
with_mark registry table = if is_some (mark_of registry table) then registry
    else with_pair registry (own_mark registry table) table

-- the first n pairs
abbrev pub first_pairs : Registry → ℕ → Registry
first_pairs registry n = record registry { pairs = take n registry.pairs }

-- what holds of each registry: neither a mark nor a table stands twice, the globals table, number
-- 0, has no mark, and a mark of this state has the number of its own table
pub record IsRegistry (registry : Registry) : Type 0 where
  pub marks_once : IsDistinct mark_eq (keys_of registry.pairs)
  pub tables_once : IsDistinct nat_eq (values_of registry.pairs)
  pub no_globals : All (λ (pair : Mark × ℕ). 0 < pair.1) registry.pairs
  pub own : All (λ (pair : Mark × ℕ). pair.0.state ≡ registry.state → pair.0.table ≡ pair.1)
      registry.pairs

-- what a contract sees of `Marks`: the registry, and how many pairs can be added without a refusal
pub record Shown : Type 0 where
  pub registry : Registry
  pub room : ℕ
