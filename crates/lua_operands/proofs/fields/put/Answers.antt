use Rattle.std.proofs.Common.{refl, ap, sym, ◌∙◌, slice_get}
use Rattle.lua_meaning.specs.Run.{here, lost, wrote}
use Rattle.lua_machine.specs.Does.{store_of}
use Rattle.lua_operands.proofs.Puts.{store_put, on_ok, on_err}
use Rattle.lua_operands.proofs.fields.put.Goals as goal

pub returns-then-refused : goal.returns-then-refused
returns-then-refused g c =
    let same = on_err c.raw_set.result (sym c.is_err-refused.ensures.value ∙ c.if-refused.true) c.raw_set.ensures.err in
    record { leads = λ k. rw (c.lose.ensures, same) lost; stack = tt }

pub returns : goal.returns
returns g c =
    let m = c.args.m.now in
    let set = on_ok c.raw_set.result (sym c.is_err-refused.ensures.value ∙ c.if-refused.false) c.raw_set.ensures.set in
    let store = ap store_of set ∙ store_put (slice_get m.state.heap.tables c.args.id.number) m.state c.args.id.number c.args.key m.value in
    record { leads = λ k. rw store (wrote here); stack = refl }
