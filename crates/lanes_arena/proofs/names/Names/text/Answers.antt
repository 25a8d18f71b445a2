use Rattle.std.proofs.Common.{subst}
use Rattle.std.specs.List.{IsDistinct}
use Rattle.std.specs.Str.{bytes_eq}
use Rattle.lanes_arena.proofs.NameLemmas.{IsDistinct-map}
use Rattle.lanes_arena.proofs.names.Names.text.Goals as goal

pub returns-clause-distinct : goal.returns-clause-distinct
returns-clause-distinct c = subst (IsDistinct bytes_eq) c.self.view_is (IsDistinct-map (λ t. t.items) c.self.inside.texts.keys c.len-len.ensures.unique)
