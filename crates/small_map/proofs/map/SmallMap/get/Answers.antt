use Rattle.std.proofs.Common.{◌≡◌, ◌∙◌, ap, sym, Some, None}
use Rattle.std.specs.Map.{lookup}
use Rattle.small_map.specs.Pairs.{entries_of}
use Rattle.small_map.proofs.FewLemmas.{spot, spot_is, lookup_there, lookup_past}
use Rattle.small_map.proofs.map.SmallMap.get.Goals as goal

pub returns-in-Some : goal.returns-in-Some
returns-in-Some g c =
    let t = g.K.PartialEq.eq c.args.key in
    let few = c.self.inside.few.items in
    let there : spot t few ≡ Some c.in-Some.i = sym (c.in-Some.ensures.place ∙ spot_is t _ ∙ ap (spot t) c.deref.ensures.value) in
    ap (λ p. Some (p.1)) c.index.ensures ∙ lookup_there t few (entries_of c.self.inside.many) c.in-Some.i _ there ∙ ap (λ m. lookup t m.entries) c.self.view_is

pub returns-in-None : goal.returns-in-None
returns-in-None g c =
    let t = g.K.PartialEq.eq c.args.key in
    let few = c.self.inside.few.items in
    let gone : spot t few ≡ None = sym (c.in_default.ensures.place ∙ spot_is t _ ∙ ap (spot t) c.deref.ensures.value) in
    sym (ap (λ m. lookup t m.entries) (sym c.self.view_is) ∙ lookup_past t few (entries_of c.self.inside.many) gone ∙ ap (λ m. lookup t (entries_of m)) c.in-None.is)

pub returns-in-Some-many : goal.returns-in-Some-many
returns-in-Some-many g c =
    let t = g.K.PartialEq.eq c.args.key in
    let few = c.self.inside.few.items in
    let gone : spot t few ≡ None = sym (c.in_default.ensures.place ∙ spot_is t _ ∙ ap (spot t) c.deref.ensures.value) in
    c.copied.ensures ∙ c.get.ensures.value ∙ ap (λ m. lookup t m.entries) c.deref-in-Some-many.ensures
    ∙ sym (ap (λ m. lookup t m.entries) (sym c.self.view_is) ∙ lookup_past t few (entries_of c.self.inside.many) gone ∙ ap (λ m. lookup t (entries_of m)) c.in-Some-many.is)
