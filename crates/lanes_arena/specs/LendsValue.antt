-- What an arena is once a borrow of one of its values has ended.
use Rattle.std.specs.Prelude.{ℕ, Option}
use Rattle.std.specs.Borrow.{Lends, LendsIf, Fml, RattleType, MutBor}
use Rattle.lanes_arena.specs.Arena.{Held, with_item}
use Rattle.lanes_arena.specs.contracts.arena.Arena.{the_row}

module _ (T K : RattleType) (s : MutBor (Held T.Denot)) (number : ℕ) where
  -- the value of the number is the last that was written through r
  abbrev pub lends_value : MutBor T.Denot → Fml
  lends_value r = Lends (the_row T K) T s r (with_item s.now number)

  -- the same where r is a reference, and where there is none the arena stays as it is
  abbrev pub lends_found : Option (MutBor T.Denot) → Fml
  lends_found r = LendsIf (the_row T K) T s r (with_item s.now number) s.now
