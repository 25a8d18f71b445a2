use Rattle.std.proofs.Common.{refl, ap, ◌∙◌, slice_get}
use Rattle.lua_meaning.specs.Run.{here, wrote}
use Rattle.lua_machine.specs.Does.{store_of}
use Rattle.lua_operands.proofs.Puts.{store_put}
use Rattle.lua_operands.proofs.fields.put_here.Goals as goal

pub returns-clause-put : goal.returns-clause-put
returns-clause-put g c = λ yes.
    let m = c.args.m.now in
    let store = ap store_of (c.raw_set_here.ensures.set yes) ∙ store_put (slice_get m.state.heap.tables c.args.id.number) m.state c.args.id.number c.args.key m.value in
    record { leads = λ k. rw store (wrote here); stack = refl }
