use Rattle.std.proofs.Common.{◌≡◌, ◌∙◌, ◌++◌, ◌∷◌, [], ap, sym, subst, arith}
use Rattle.std.specs.List.{IsDistinct}
use Rattle.std.proofs.lemmas.List.{append-nil}
use Rattle.std.specs.Map.{lookup, keys_of}
use Rattle.indexmap.specs.IndexMap.{insert_entry}
use Rattle.small_map.specs.Pairs.{entries_of}
use Rattle.small_map.proofs.FewLemmas.{insert_last, none_is}
use Rattle.small_map.proofs.map.SmallMap.add.Goals as goal

pub returns-in-Some-clause-entries : goal.returns-in-Some-clause-entries
returns-in-Some-clause-entries g c =
    let eq = g.K.PartialEq.eq in
    let few = c.self.inside.few.items in
    let es = c.in-Some.map.value.entries in
    let shown : few ++ es ≡ c.args.self.now.entries = ap (λ m. few ++ entries_of m) (sym c.in-Some.is) ∙ ap (λ s. s.entries) c.self.view_is in
    insert_last eq c.args.key c.args.value few es c.insert.new.self.entries (ap (lookup (eq c.args.key)) shown ∙ c.requires.absent)
    (c.in_ok-insert.ensures.entries ∙ ap (λ m. insert_entry eq m.entries c.args.key c.args.value) c.deref_mut.ensures.value)
    ∙ ap (λ l. l ++ (c.args.key, c.args.value) ∷ []) shown

pub map_with-requires : goal.map_with-requires
map_with-requires g c =
    let eq = g.K.PartialEq.eq in
    let few = c.self.inside.few.items in
    let shown : few ≡ c.args.self.now.entries = sym (append-nil few) ∙ ap (λ m. few ++ entries_of m) (sym (none_is _ c.in_default.not-Some)) ∙ ap (λ s. s.entries) c.self.view_is in
    let same : c.deref.result.now ≡ c.args.self.now.entries = c.deref.ensures.value ∙ shown in
    record {
      absent = ap (lookup (eq c.args.key)) same ∙ c.requires.absent;
      distinct = subst (λ l. IsDistinct eq (keys_of l)) (sym same) c.requires.distinct;
      small = omega (arith, c.deref.ensures.len, c.self.invariant);
    }

pub returns-clause-entries : goal.returns-clause-entries
returns-clause-entries g c =
    let few = c.self.inside.few.items in
    let shown : few ≡ c.args.self.now.entries = sym (append-nil few) ∙ ap (λ m. few ++ entries_of m) (sym (none_is _ c.in_default.not-Some)) ∙ ap (λ s. s.entries) c.self.view_is in
    ap (λ l. l ++ c.in_ok-map.map.value.entries) c.new.ensures.items ∙ c.in_ok-map.ensures ∙ ap (λ l. l ++ (c.args.key, c.args.value) ∷ []) (c.deref.ensures.value ∙ shown)
