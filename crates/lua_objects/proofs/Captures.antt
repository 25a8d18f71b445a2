-- The cells of a new function, one after another.
use Rattle.std.proofs.Common.{◌≡◌, ℕ, ◌+◌, ◌<◌, ◌≤◌, Option, Some, None, List, [], ◌∷◌, ◌++◌, length, drop, get_or, refl, sym, ap, ◌∙◌, add-one, drop-cons, append_assoc}
use Rattle.std.proofs.lemmas.List.{drop_all}
use Rattle.lua_program.specs.declared.program.UpFrom.{UpFrom}
use Rattle.object_store.specs.Heap.{Heap}
use Rattle.lua_meaning.specs.Level.{Frame, CellId}
use Rattle.lua_meaning.specs.Names.{captured, captures, both}

-- cells, and then those of further captures
abbrev pub with_front : List CellId → Option (List CellId) → Option (List CellId)
with_front cs None = None
with_front cs (Some ds) = Some (cs ++ ds)

front_more : (cs : List CellId) (c : CellId) (o : Option (List CellId)) → with_front cs (both (Some c) o) ≡ with_front (cs ++ c ∷ []) o
front_more cs c None = refl
front_more cs c (Some ds) = ap Some (sym (append_assoc cs (c ∷ []) ds))

pub front_none : (o : Option (List CellId)) → o ≡ with_front [] o
front_none None = refl
front_none (Some ds) = refl

module _ (heap : Heap) (f : Frame) (ups : List UpFrom) (i : ℕ) where
  captures_at : (u : UpFrom) → i < length ups → u ≡ get_or ups i u → captures heap f (drop i ups) ≡ both (captured heap f u) (captures heap f (drop (i + 1) ups))
  captures_at u h is =
      let e : drop i ups ≡ get_or ups i u ∷ drop (i + 1) ups = rw (add-one, drop-cons ups i u) in
      ap (captures heap f) (e ∙ ap (λ x. x ∷ drop (i + 1) ups) (sym is))

  pub captures_more : (u : UpFrom) (cs : List CellId) (c : CellId) → i < length ups → u ≡ get_or ups i u → Some c ≡ captured heap f u → with_front cs (captures heap f (drop i ups)) ≡ with_front (cs ++ c ∷ []) (captures heap f (drop (i + 1) ups))
  captures_more u cs c h is e =
      ap (with_front cs) (captures_at u h is ∙ ap (λ o. both o (captures heap f (drop (i + 1) ups))) (sym e)) ∙ front_more cs c (captures heap f (drop (i + 1) ups))

  pub captures_none : (u : UpFrom) (cs : List CellId) → i < length ups → u ≡ get_or ups i u → None ≡ captured heap f u → with_front cs (captures heap f (drop i ups)) ≡ None
  captures_none u cs h is e = ap (with_front cs) (captures_at u h is ∙ ap (λ o. both o (captures heap f (drop (i + 1) ups))) (sym e))

  pub captures_end : (cs : List CellId) → length ups ≤ i → with_front cs (captures heap f (drop i ups)) ≡ Some (cs ++ [])
  captures_end cs h = ap (λ x. with_front cs (captures heap f x)) (drop_all i ups h)
