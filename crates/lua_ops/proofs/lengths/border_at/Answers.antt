use Rattle.std.proofs.Common.{◌≡◌, ◌∙◌, pos, slice_get, ap, arith}
use Rattle.std.proofs.lemmas.Int.{ints, to_z-of_z}
use Rattle.object_store.specs.Pairs.{border_of}
use Rattle.object_store.proofs.BorderLemmas.{border_at_is}
use Rattle.lua_ops.specs.Metamethods as spec
use Rattle.lua_ops.proofs.lengths.border_at.Goals as goal

pub returns-in-Some : goal.returns-in-Some
returns-in-Some c =
    let e : c.border.result ≡ pos (border_of (spec.pairs_in (slice_get c.args.state.now.heap.tables c.args.id.number))) = border_at_is c.in-Some.table.now.pairs c.border.result c.border.ensures ∙ ap (λ o. pos (border_of (spec.pairs_in o))) c.in-Some.ensures.table in
    grind (arith, ints, to_z-of_z)
