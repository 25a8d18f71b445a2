use Rattle.std.proofs.Common.{sym}
use Rattle.object_store.specs.Closed.{bounds_of}
use Rattle.object_store.specs.Table.{contents_of}
use Rattle.object_store.proofs.CallerLemmas.{IsClosed-with_table, IsTableWithin-after_set, BelongsTable-at}
use Rattle.graph_copy_tests.proofs.maker.set_field.Goals as goal

pub returns-in-Some : goal.returns-in-Some
returns-in-Some c = record {
  closed = IsClosed-with_table c.args.state.now c.args.id.number (contents_of c.set.new.self) c.requires.closed
      (IsTableWithin-after_set (bounds_of c.args.state.now) c.in-Some.table.now c.set.new.self c.set.result c.args.key c.args.value
      (BelongsTable-at c.args.state.now c.args.id.number (contents_of c.in-Some.table.now) c.requires.closed (sym c.in-Some.ensures.table))
      c.requires.key c.requires.value c.set.ensures.pairs c.set.ensures.meta c.set.ensures.err);
}
