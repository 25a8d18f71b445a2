-- What contracts see of a queue: its values, its limit, and how many values fit without a refusal.
use Rattle.std.specs.Prelude.{ℕ, List, Option}
use Rattle.linda_core.specs.declared.item.Item.{Item}

pub record Queued : Type 0 where
  pub items : List Item
  pub limit : Option ℕ
  pub capacity : ℕ
