use Rattle.std.proofs.Common.{subst}
use Rattle.std.specs.List.{IsDistinct}
use Rattle.std.specs.Str.{bytes_eq}
use Rattle.lanes_arena.proofs.NameLemmas.{number_there, named_there, number_new, named_new, found_is, held_text, held_new, IsDistinct-map, not_held}
use Rattle.lanes_arena.proofs.names.Names.name.Goals as goal

pub returns-in-Some-clause-number : goal.returns-in-Some-clause-number
returns-in-Some-clause-number c = number_there (λ t. t.items) c.self.inside.texts.keys _ c.args.text.now _ c.self.view_is c.in-Some.ensures.index

pub returns-in-Some-clause-texts : goal.returns-in-Some-clause-texts
returns-in-Some-clause-texts c = named_there (λ t. t.items) c.self.inside.texts.keys _ c.args.text.now c.self.view_is c.in-Some.ensures.found

pub returns-in-Some-clause-held : goal.returns-in-Some-clause-held
returns-in-Some-clause-held c = held_text _ c.args.text.now _ (found_is (λ t. t.items) c.self.inside.texts.keys _ c.args.text.now _ c.self.view_is c.in-Some.ensures.index)

pub returns-in-Some-clause-distinct : goal.returns-in-Some-clause-distinct
returns-in-Some-clause-distinct c = subst (IsDistinct bytes_eq) c.self.view_is (IsDistinct-map (λ t. t.items) c.self.inside.texts.keys c.len-len.ensures.unique)

pub returns-in_err-text-clause-distinct : goal.returns-in_err-text-clause-distinct
returns-in_err-text-clause-distinct c = subst (IsDistinct bytes_eq) c.self.view_is (IsDistinct-map (λ t. t.items) c.self.inside.texts.keys c.len-len.ensures.unique)

pub returns-in_err-place-clause-distinct : goal.returns-in_err-place-clause-distinct
returns-in_err-place-clause-distinct c = IsDistinct-map (λ t. t.items) c.insert_full.new.self.keys c.insert_full.ensures.unique

pub returns-clause-number : goal.returns-clause-number
returns-clause-number c = number_new (λ t. t.items) c.self.inside.texts.keys _ c.args.text.now c.self.view_is c.in_ok-text.text c.in_ok-text.ensures.items _ c.in_ok-place.ensures.index

pub returns-clause-texts : goal.returns-clause-texts
returns-clause-texts c = named_new (λ t. t.items) c.self.inside.texts.keys _ c.args.text.now c.self.view_is c.in_ok-text.text c.in_ok-text.ensures.items _ c.in_ok-place.ensures.keys

pub returns-clause-held : goal.returns-clause-held
returns-clause-held c =
    held_new _ c.args.text.now _ _
    (named_new (λ t. t.items) c.self.inside.texts.keys _ c.args.text.now c.self.view_is c.in_ok-text.text c.in_ok-text.ensures.items _ c.in_ok-place.ensures.keys)
    (number_new (λ t. t.items) c.self.inside.texts.keys _ c.args.text.now c.self.view_is c.in_ok-text.text c.in_ok-text.ensures.items _ c.in_ok-place.ensures.index)

pub returns-clause-distinct : goal.returns-clause-distinct
returns-clause-distinct c = IsDistinct-map (λ t. t.items) c.insert_full.new.self.keys c.in_ok-place.ensures.unique

pub returns-in_err-text-clause-succeeds : goal.returns-in_err-text-clause-succeeds
returns-in_err-text-clause-succeeds c = λ there. absurd (not_held c.get_index_of.result _ c.in_default.not-Some (found_is (λ t. t.items) c.self.inside.texts.keys _ c.args.text.now _ c.self.view_is c.get_index_of.ensures.index) there)

pub returns-in_err-place-clause-succeeds : goal.returns-in_err-place-clause-succeeds
returns-in_err-place-clause-succeeds c = λ there. absurd (not_held c.get_index_of.result _ c.in_default.not-Some (found_is (λ t. t.items) c.self.inside.texts.keys _ c.args.text.now _ c.self.view_is c.get_index_of.ensures.index) there)
