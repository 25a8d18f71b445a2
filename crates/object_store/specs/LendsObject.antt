-- What a state is once a borrow of one of its tables or cells has ended.
use Rattle.std.specs.Prelude.{ℕ, Option}
use Rattle.std.specs.Borrow.{Lends, LendsIf, Fml, MutBor}
use Rattle.object_store.specs.declared.state.Cell.{Cell}
use Rattle.object_store.specs.Table.{TableShown, contents_of}
use Rattle.object_store.specs.Heap.{Shown, with_table, with_cell}
use Rattle.object_store.specs.contracts.table.Table.{the_row as table_row}
use Rattle.object_store.specs.contracts.state.Cell.{the_row as cell_row}
use Rattle.object_store.specs.contracts.state.State.{the_row}

-- the table of the number is the last that was written through r
abbrev pub LendsTable : MutBor Shown → ℕ → MutBor TableShown → Fml
LendsTable s number r = Lends the_row table_row s r
    (λ table. with_table s.now number (contents_of table))

-- the same where r is a reference, and where there is none the state stays as it is
abbrev pub LendsTableIf : MutBor Shown → ℕ → Option (MutBor TableShown) → Fml
LendsTableIf s number r = LendsIf the_row table_row s r (λ table. with_table s.now number
    (contents_of table)) s.now

-- the cell of the number is the last that was written through r
abbrev pub LendsCell : MutBor Shown → ℕ → MutBor Cell → Fml
LendsCell s number r = Lends the_row cell_row s r (with_cell s.now number)
