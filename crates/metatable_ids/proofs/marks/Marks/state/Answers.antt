use Rattle.std.proofs.Common.{subst}
use Rattle.metatable_ids.specs.Registry.{IsRegistry}
use Rattle.metatable_ids.proofs.RegistryLemmas.{registry_kept}
use Rattle.metatable_ids.proofs.marks.Marks.state.Goals as goal

pub returns-clause-registry : goal.returns-clause-registry
returns-clause-registry c = subst (λ s. IsRegistry s.registry) c.self.view_is (registry_kept c.self.inside.state c.self.inside.by_mark.entries c.self.inside.by_table.entries c.self.invariant c.len-marks.ensures.unique c.len-tables.ensures.unique)
