use Rattle.std.proofs.Common.{◌∙◌, ap, nat_eq}
use Rattle.std.specs.Map.{lookup}
use Rattle.metatable_ids.specs.Registry.{mark_of}
use Rattle.metatable_ids.specs.Kept.{registry_of}
use Rattle.metatable_ids.proofs.marks.Marks.mark_of.Goals as goal

pub returns : goal.returns
returns c = c.copied.ensures ∙ c.get.ensures.value ∙ ap (lookup (nat_eq c.number.result)) c.self.invariant.same ∙ ap (mark_of (registry_of c.self.inside.state c.self.inside.by_mark.entries)) c.number.ensures ∙ ap (λ s. mark_of s.registry c.args.table.number) c.self.view_is
