use Rattle.std.proofs.Common.{◌∙◌, ap}
use Rattle.object_store.specs.Table.{contents_of}
use Rattle.object_store.specs.Heap.{with_table}
use Rattle.base_lib.proofs.Belonging.{IsClosed-same, IsClosed-set_there}
use Rattle.base_lib.proofs.States.{with_table-same, with_pair-absent}
use Rattle.base_lib.proofs.changes.set_pair.Goals as goal

pub returns-in-Err-clause-err : goal.returns-in-Err-clause-err
returns-in-Err-clause-err c =
    ap (with_table c.args.state.now c.args.id.number) c.in-Err.ensures.err
    ∙ with_table-same c.args.state.now c.args.id.number (contents_of c.in-Some.table.now) c.in-Some.ensures.table

pub returns-in-Err-clause-closed : goal.returns-in-Err-clause-closed
returns-in-Err-clause-closed c =
    λ closed key_fits value_fits.
    IsClosed-same c.args.state.now _
    (ap (with_table c.args.state.now c.args.id.number) c.in-Err.ensures.err
    ∙ with_table-same c.args.state.now c.args.id.number (contents_of c.in-Some.table.now) c.in-Some.ensures.table) closed

pub returns-in-Ok-clause-closed : goal.returns-in-Ok-clause-closed
returns-in-Ok-clause-closed c =
    IsClosed-set_there c.args.state.now c.args.id.number (contents_of c.in-Some.table.now) (contents_of c.set.new.self)
    c.args.key c.args.value c.in-Some.ensures.table c.in-Ok.ensures.pairs c.in-Ok.ensures.meta

pub returns-in-None-clause-ok : goal.returns-in-None-clause-ok
returns-in-None-clause-ok c = with_pair-absent c.args.state.now c.args.id.number c.args.key c.args.value c.in-None.ensures.table
