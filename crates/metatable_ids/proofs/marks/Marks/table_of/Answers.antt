use Rattle.std.proofs.Common.{◌∙◌, ap, sym}
use Rattle.std.specs.Option.{option_map}
use Rattle.object_store.specs.Value.{TableId}
use Rattle.metatable_ids.specs.Registry.{table_of}
use Rattle.metatable_ids.proofs.RegistryLemmas.{table_of-entries}
use Rattle.metatable_ids.proofs.marks.Marks.table_of.Goals as goal

pub returns : goal.returns
returns c = ap (option_map (λ (id : TableId). id.number)) (c.copied.ensures ∙ c.get.ensures.value) ∙ sym (table_of-entries c.self.inside.state c.args.mark c.self.inside.by_mark.entries) ∙ ap (λ s. table_of s.registry c.args.mark) c.self.view_is
