use Rattle.std.proofs.Common.{None, ◌≡◌, ◌∙◌, ◌<◌, ◌++◌, ◌∷◌, [], List, ℕ, ap, sym, subst, arith, min, nat_eq}
use Rattle.std.specs.Map.{lookup}
use Rattle.indexmap.specs.IndexMap.{spare}
use Rattle.lanes_arena.specs.declared.code.Mark.{Mark}
use Rattle.metatable_ids.specs.Registry.{mark_eq, table_of, mark_of, with_pair}
use Rattle.metatable_ids.specs.Kept.{IsKept, registry_of}
use Rattle.metatable_ids.proofs.RegistryLemmas.{registry_of-push, kept-push, on_ok, insert_entry-push, mark_absent}
use Rattle.metatable_ids.proofs.marks.Marks.add.Goals as goal

first : (c : goal.After-unwrap-2) → c.insert.new.self.entries ≡ c.self.inside.by_mark.entries ++ (c.args.mark, c.args.table) ∷ []
first c =
    let room : 0 < min (spare c.self.inside.by_mark) (spare c.self.inside.by_table) = subst (λ s. 0 < s.room) (sym c.self.view_is) c.requires.room in
    let no_mark = subst (λ s. table_of s.registry c.args.mark ≡ None) (sym c.self.view_is) c.requires.new_mark in
    on_ok _ c.insert.result (c.insert.ensures.succeeds (omega arith)) c.insert.ensures.entries ∙ insert_entry-push mark_eq c.self.inside.by_mark.entries c.args.mark c.args.table (mark_absent c.self.inside.state c.args.mark c.self.inside.by_mark.entries no_mark)

second : (c : goal.After-unwrap-2) → c.insert-2.new.self.entries ≡ c.self.inside.by_table.entries ++ (c.args.table.number, c.args.mark) ∷ []
second c =
    let entries : List (ℕ × Mark) = c.self.inside.by_table.entries in
    let room : 0 < min (spare c.self.inside.by_mark) (spare c.self.inside.by_table) = subst (λ s. 0 < s.room) (sym c.self.view_is) c.requires.room in
    let no_table = subst (λ s. mark_of s.registry c.args.table.number ≡ None) (sym c.self.view_is) c.requires.new_table in
    let none : lookup (nat_eq c.number.result) entries ≡ None = ap (λ n. lookup (nat_eq n) entries) c.number.ensures ∙ ap (lookup (nat_eq c.args.table.number)) c.self.invariant.same ∙ no_table in
    on_ok _ c.insert-2.result (c.insert-2.ensures.succeeds (omega arith)) c.insert-2.ensures.entries ∙ insert_entry-push nat_eq entries c.number.result c.args.mark none ∙ ap (λ n. entries ++ (n, c.args.mark) ∷ []) c.number.ensures

pub invariant_of-self : goal.invariant_of-self
invariant_of-self c =
    let kept = kept-push c.self.inside.state c.self.inside.by_mark.entries c.self.inside.by_table.entries c.args.mark c.args.table c.self.invariant c.requires.not_globals (λ h. c.requires.own (h ∙ ap (λ s. s.registry.state) c.self.view_is)) in
    subst (λ l. IsKept c.self.inside.state l c.insert-2.new.self.entries) (sym (first c)) (subst (IsKept c.self.inside.state (c.self.inside.by_mark.entries ++ (c.args.mark, c.args.table) ∷ [])) (sym (second c)) kept)

pub returns-clause-registry : goal.returns-clause-registry
returns-clause-registry c = ap (registry_of c.self.inside.state) (first c) ∙ registry_of-push c.self.inside.state c.self.inside.by_mark.entries c.args.mark c.args.table ∙ ap (λ s. with_pair s.registry c.args.mark c.args.table.number) c.self.view_is
