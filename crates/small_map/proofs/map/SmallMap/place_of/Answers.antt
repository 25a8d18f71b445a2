use Rattle.std.proofs.Common.{◌≡◌, ◌∙◌, ◌+◌, ap, sym, Some, None, position, length, arith}
use Rattle.std.specs.Map.{keys_of}
use Rattle.std.specs.Option.{option_map}
use Rattle.small_map.specs.Pairs.{entries_of}
use Rattle.small_map.proofs.FewLemmas.{spot, spot_is, spot_there, spot_past}
use Rattle.small_map.proofs.map.SmallMap.place_of.Goals as goal

pub returns-in-Some : goal.returns-in-Some
returns-in-Some g c =
    let t = g.K.PartialEq.eq c.args.key in
    let few = c.self.inside.few.items in
    let there : spot t few ≡ Some c.in-Some.i = sym (c.in-Some.ensures.place ∙ spot_is t _ ∙ ap (spot t) c.deref.ensures.value) in
    spot_there t few (entries_of c.self.inside.many) c.in-Some.i there ∙ ap (λ m. position t (keys_of m.entries)) c.self.view_is

pub returns-in-None : goal.returns-in-None
returns-in-None g c =
    let t = g.K.PartialEq.eq c.args.key in
    let few = c.self.inside.few.items in
    let gone : spot t few ≡ None = sym (c.in_default.ensures.place ∙ spot_is t _ ∙ ap (spot t) c.deref.ensures.value) in
    sym (ap (λ m. position t (keys_of m.entries)) (sym c.self.view_is) ∙ spot_past t few (entries_of c.self.inside.many) gone
    ∙ ap (λ m. option_map (λ i. length few + i) (position t (keys_of (entries_of m)))) c.in-None.is)

pub returns-in-None-get_index_of : goal.returns-in-None-get_index_of
returns-in-None-get_index_of g c =
    let t = g.K.PartialEq.eq c.args.key in
    let few = c.self.inside.few.items in
    let gone : spot t few ≡ None = sym (c.in_default.ensures.place ∙ spot_is t _ ∙ ap (spot t) c.deref.ensures.value) in
    sym (ap (λ m. position t (keys_of m.entries)) (sym c.self.view_is) ∙ spot_past t few (entries_of c.self.inside.many) gone
    ∙ ap (λ m. option_map (λ i. length few + i) (position t (keys_of (entries_of m)))) c.in-Some-many.is
    ∙ ap (option_map (λ i. length few + i)) (sym (c.in-None-get_index_of.ensures.index ∙ ap (λ m. position t (keys_of m.entries)) c.deref-in-Some-many-2.ensures)))

pub returns-in-Some-get_index_of : goal.returns-in-Some-get_index_of
returns-in-Some-get_index_of g c =
    let t = g.K.PartialEq.eq c.args.key in
    let few = c.self.inside.few.items in
    let gone : spot t few ≡ None = sym (c.in_default.ensures.place ∙ spot_is t _ ∙ ap (spot t) c.deref.ensures.value) in
    let same : length few ≡ c.len.result = omega (arith, c.len.ensures) in
    sym (ap (λ m. position t (keys_of m.entries)) (sym c.self.view_is) ∙ spot_past t few (entries_of c.self.inside.many) gone
    ∙ ap (λ m. option_map (λ i. length few + i) (position t (keys_of (entries_of m)))) c.in-Some-many.is
    ∙ ap (option_map (λ i. length few + i)) (sym (c.in-Some-get_index_of.ensures.index ∙ ap (λ m. position t (keys_of m.entries)) c.deref-in-Some-many-2.ensures))
    ∙ ap (λ n. Some (n + c.in-Some-get_index_of.i)) same)
