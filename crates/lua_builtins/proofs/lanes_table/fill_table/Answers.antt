use Rattle.std.proofs.Common.{◌≡◌, sym, ap, ◌∙◌, length, None}
use Rattle.object_store.specs.Table.{contents_of}
use Rattle.lua_meaning.specs.Run.{lost, wrote}
use Rattle.lua_meaning.specs.Library.{lanes_contents}
use Rattle.lua_machine.specs.Does.{world}
use Rattle.lua_operands.proofs.Puts.{on_ok}
use Rattle.lua_builtins.specs.Parts.{table_ahead}
use Rattle.lua_builtins.proofs.Tables.{made, table_is}
use Rattle.lua_builtins.proofs.lanes_table.fill_table.Goals as goal

pub returns-in-Err : goal.returns-in-Err
returns-in-Err g c = λ p l s. record { leads = λ k. rw (c.lose-in-Err.ensures, c.in-Err.ensures.err) lost; stack = tt }

pub returns-else-is_err : goal.returns-else-is_err
returns-else-is_err g c = λ p l s.
    let m = c.args.m.now in
    let e = c.in-Ok.ensures in
    let table = c.set.new.self in
    let set = on_ok c.set.result (sym c.is_err.ensures.value ∙ c.if-is_err.false) c.set.ensures.pairs in
    let pairs : table.pairs ≡ lanes_contents p l s m.state.texts = rw (c.requires.empty, e.value) at set in
    let meta : table.meta ≡ None = c.set.ensures.meta ∙ c.requires.meta in
    let contents : contents_of table ≡ record { pairs = lanes_contents p l s m.state.texts; meta = None } = λ i. record { pairs = pairs i; meta = meta i } in
    let id = table_is c.add_table-id.result (world m) (c.add_table-id.ensures.number ∙ ap (λ h. length h.tables) e.heap) in
    let known = rw id at c.set_lanes_table.ensures.state in
    let store = made p l s m.state c.intern.new.self c.add_table-id.new.self c.set_lanes_table.new.self (contents_of table) (table_ahead (world m)) e.heap e.texts c.add_table-id.ensures.heap c.add_table-id.ensures.texts known contents in
    record {
      leads = λ k. wrote (let x = c.give_one.ensures.leads k in rw (store, id) at x);
      stack = c.give_one.ensures.stack;
    }
