-- What `Marks` keeps: one list of pairs under either key.
use Rattle.std.specs.Prelude.{◌≡◌, ℕ, ◌<◌, List, map, All}
use Rattle.lanes_arena.specs.declared.code.Mark.{Mark}
use Rattle.object_store.specs.Value.{TableId}
use Rattle.metatable_ids.specs.Registry.{Registry, turned}

abbrev pub registry_of : ℕ → List (Mark × TableId) → Registry
registry_of state entries = record {
  state = state;
  pairs = map (λ (pair : Mark × TableId). (pair.0, pair.1.number)) entries;
}

pub record IsKept (state : ℕ) (by_mark : List (Mark × TableId)) (by_table : List (ℕ × Mark))
    : Type 0 where
  pub no_globals : All (λ (pair : Mark × ℕ). 0 < pair.1) ((registry_of state by_mark).pairs)
  pub own : All (λ (pair : Mark × ℕ). pair.0.state ≡ state → pair.0.table ≡ pair.1)
      ((registry_of state by_mark).pairs)
  pub same : by_table ≡ map turned ((registry_of state by_mark).pairs)
