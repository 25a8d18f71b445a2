use Rattle.std.proofs.Common.{length, ap, sym, arith}
use Rattle.std.proofs.lemmas.Option.{slice_get_past}
use Rattle.object_store.proofs.RunLemmas.{length-joined}
use Rattle.object_store.proofs.table.Table.pair.Goals as goal

pub pair_at-requires : goal.pair_at-requires
pair_at-requires c = omega (arith, c.if-i-len.true, c.len.ensures, c.deref.ensures.len, length-joined c.self.inside.run.items c.self.inside.rest.entries, ap (λ t. length t.pairs) c.self.view_is)

pub returns-else-i-len : goal.returns-else-i-len
returns-else-i-len c = sym (slice_get_past c.args.self.now.pairs c.args.i (omega (arith, c.if-i-len.false, c.len.ensures)))
