use Rattle.std.proofs.Common.{◌≡◌, ◌∙◌, ◌++◌, ap, sym, Some, None, slice_set}
use Rattle.std.specs.Map.{lookup, set_value}
use Rattle.small_map.specs.Pairs.{entries_of}
use Rattle.small_map.proofs.FewLemmas.{spot, spot_is, lookup_there, lookup_past, set_there, set_past, on_some, none_is}
use Rattle.small_map.proofs.map.SmallMap.replace.Goals as goal

pub returns-in-Some-clause-old : goal.returns-in-Some-clause-old
returns-in-Some-clause-old g c =
    let t = g.K.PartialEq.eq c.args.key in
    let few = c.self.inside.few.items in
    let there : spot t few ≡ Some c.in-Some.i = sym (c.in-Some.ensures.place ∙ spot_is t _ ∙ ap (spot t) c.deref.ensures.value) in
    ap (λ p. Some (p.1)) c.index.ensures ∙ lookup_there t few (entries_of c.self.inside.many) c.in-Some.i _ there ∙ ap (λ m. lookup t m.entries) c.self.view_is

pub returns-in-Some-clause-present : goal.returns-in-Some-clause-present
returns-in-Some-clause-present g c =
    let t = g.K.PartialEq.eq c.args.key in
    let few = c.self.inside.few.items in
    let there : spot t few ≡ Some c.in-Some.i = sym (c.in-Some.ensures.place ∙ spot_is t _ ∙ ap (spot t) c.deref.ensures.value) in
    ap (λ p. slice_set few c.in-Some.i (p.0, c.args.value) ++ entries_of c.self.inside.many) c.index_mut.ensures.value
    ∙ set_there t few (entries_of c.self.inside.many) c.in-Some.i _ c.args.value there ∙ ap (λ m. set_value t m.entries c.args.value) c.self.view_is

pub returns-in_default-many-clause-old : goal.returns-in_default-many-clause-old
returns-in_default-many-clause-old g c =
    let t = g.K.PartialEq.eq c.args.key in
    let few = c.self.inside.few.items in
    let gone : spot t few ≡ None = sym (c.in_default.ensures.place ∙ spot_is t _ ∙ ap (spot t) c.deref.ensures.value) in
    sym (ap (λ m. lookup t m.entries) (sym c.self.view_is) ∙ lookup_past t few (entries_of c.self.inside.many) gone ∙ ap (λ m. lookup t (entries_of m)) (none_is _ c.in_default-many.not-Some))

pub returns-clause-old : goal.returns-clause-old
returns-clause-old g c =
    let t = g.K.PartialEq.eq c.args.key in
    let few = c.self.inside.few.items in
    let gone : spot t few ≡ None = sym (c.in_default.ensures.place ∙ spot_is t _ ∙ ap (spot t) c.deref.ensures.value) in
    c.replace_in.ensures.old ∙ ap (λ m. lookup t m.entries) c.deref_mut.ensures.value
    ∙ sym (ap (λ m. lookup t m.entries) (sym c.self.view_is) ∙ lookup_past t few (entries_of c.self.inside.many) gone ∙ ap (λ m. lookup t (entries_of m)) c.in-Some-many.is)

pub returns-clause-present : goal.returns-clause-present
returns-clause-present g c =
    let t = g.K.PartialEq.eq c.args.key in
    let few = c.self.inside.few.items in
    let gone : spot t few ≡ None = sym (c.in_default.ensures.place ∙ spot_is t _ ∙ ap (spot t) c.deref.ensures.value) in
    on_some c.replace_in.result _ _ (λ made.
    ap (λ l. few ++ l) (made ∙ ap (λ m. set_value t m.entries c.args.value) c.deref_mut.ensures.value)
    ∙ ap (λ m. few ++ set_value t (entries_of m) c.args.value) (sym c.in-Some-many.is)
    ∙ set_past t few (entries_of c.self.inside.many) c.args.value gone ∙ ap (λ m. set_value t m.entries c.args.value) c.self.view_is) c.replace_in.ensures.present
