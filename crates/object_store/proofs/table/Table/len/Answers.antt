use Rattle.std.proofs.Common.{length, ap, arith}
use Rattle.object_store.proofs.RunLemmas.{length-joined}
use Rattle.object_store.proofs.table.Table.len.Goals as goal

pub returns : goal.returns
returns c = omega (arith, c.len.ensures, c.len-2.ensures.len, length-joined c.self.inside.run.items c.self.inside.rest.entries, ap (λ t. length t.pairs) c.self.view_is)
