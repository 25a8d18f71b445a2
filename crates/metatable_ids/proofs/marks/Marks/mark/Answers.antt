use Rattle.std.proofs.Common.{◌∙◌, ap, sym}
use Rattle.metatable_ids.specs.Registry.{table_of, mark_of}
use Rattle.metatable_ids.specs.Kept.{registry_of}
use Rattle.metatable_ids.proofs.RegistryLemmas.{own_mark-absent}
use Rattle.metatable_ids.proofs.marks.Marks.mark.Goals as goal

pub add-requires-clause-new_mark : goal.add-requires-clause-new_mark
add-requires-clause-new_mark c =
    let none = ap (λ s. mark_of s.registry c.args.table.number) c.self.view_is ∙ sym c.mark_of.ensures ∙ c.in_default.is in
    ap (λ n. table_of c.args.self.now.registry (record { state = c.self.inside.state; table = n })) c.number.ensures
    ∙ ap (λ s. table_of s.registry (record { state = c.self.inside.state; table = c.args.table.number })) (sym c.self.view_is)
    ∙ own_mark-absent (registry_of c.self.inside.state c.self.inside.by_mark.entries) c.args.table.number c.self.invariant.own none
