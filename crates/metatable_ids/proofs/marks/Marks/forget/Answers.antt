use Rattle.std.proofs.Common.{◌∙◌, ap}
use Rattle.metatable_ids.proofs.RegistryLemmas.{registry_of-take, kept-take}
use Rattle.metatable_ids.specs.Registry.{first_pairs}
use Rattle.metatable_ids.specs.Kept.{registry_of}
use Rattle.metatable_ids.proofs.marks.Marks.forget.Goals as goal

pub invariant_of-self : goal.invariant_of-self
invariant_of-self c = rw (c.truncate.ensures.entries, c.truncate-2.ensures.entries) (kept-take c.self.inside.state c.args.n _ _ c.self.invariant)

pub returns-clause-registry : goal.returns-clause-registry
returns-clause-registry c = ap (registry_of c.self.inside.state) c.truncate.ensures.entries ∙ registry_of-take c.self.inside.state c.args.n c.self.inside.by_mark.entries ∙ ap (λ s. first_pairs s.registry c.args.n) c.self.view_is
