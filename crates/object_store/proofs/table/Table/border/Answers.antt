use Rattle.std.proofs.Common.{◌<◌, ◌^◌, subst, arith, rules, w64}
use Rattle.std.proofs.lemmas.Int.{to_z_pos}
use Rattle.object_store.specs.Pairs.{IsBorder}
use Rattle.object_store.specs.Run.{joined}
use Rattle.object_store.proofs.BorderLemmas.{full-le-length}
use Rattle.object_store.proofs.table.Table.border.Goals as goal

pub overflow_cast-result : goal.overflow_cast-result
overflow_cast-result c =
    let within = full-le-length c.self.inside.border (joined c.self.inside.run.items c.self.inside.rest.entries) c.self.invariant.at_border.full in
    let small : c.self.inside.border < 2 ^ 63 = omega (arith, within, c.self.invariant.few) in
    search rules

pub returns : goal.returns
returns c =
    let pairs = joined c.self.inside.run.items c.self.inside.rest.entries in
    let within = full-le-length c.self.inside.border pairs c.self.invariant.at_border.full in
    let small : c.self.inside.border < 2 ^ 63 = omega (arith, within, c.self.invariant.few) in
    record { number = c.self.inside.border; is_number = to_z_pos w64 c.self.inside.border small; is_border = subst (λ t. IsBorder t.pairs c.self.inside.border) c.self.view_is c.self.invariant.at_border }
