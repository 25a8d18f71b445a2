-- Fields and items of a table constructor, by place.
use Rattle.std.proofs.Common.{◌≡◌, ℕ, ◌+◌, ◌<◌, ◌≤◌, ℤ, Ok, List, [], ◌∷◌, length, drop, get_or, refl, sym, ap, ◌∙◌, arith, add-one, drop-cons, length-drop}
use Rattle.std.proofs.lemmas.List.{drop_all}
use Rattle.lua_program.specs.declared.expr.RField.{RField, out-RField}
use Rattle.object_store.specs.declared.value.Value.{Value}
use Rattle.object_store.specs.declared.value.Value.TheVariants as V
use Rattle.object_store.specs.Value.{TableId}
use Rattle.lua_meaning.specs.Run.{World, Next, and_then}
use Rattle.lua_meaning.specs.Level.{Loaded, Level, Frame}
use Rattle.lua_meaning.specs.Operate.{put}
use Rattle.lua_meaning.specs.Expressions.{fields, set_field, last_field, items, next_item}

first_rest : {A : Type 0} (ds : List A) (n : ℕ) (d : A) → n < length ds → d ≡ get_or ds n d → drop n ds ≡ d ∷ drop (n + 1) ds
first_rest ds n d h is =
    let e : drop n ds ≡ get_or ds n d ∷ drop (n + 1) ds = rw (add-one, drop-cons ds n d) in
    e ∙ ap (λ x. x ∷ drop (n + 1) ds) (sym is)

module _ (p : Loaded) (l : Level) (f : Frame) (line : ℕ) (id : TableId) (w : World) (k : Next (Unit {0})) where
  two : (i : ℤ) (d : RField) (ds : List RField) → 0 < length ds → fields p l f line id i (d ∷ ds) w k ≡ set_field p l f line id i (out-RField d) w (and_then k (λ i w. fields p l f line id i ds w k))
  two i d [] h = absurd (omega arith)
  two i d (c ∷ ds) h = refl

  pub field_next : (i : ℤ) (ds : List RField) (n : ℕ) (d : RField) → n + 1 < length ds → d ≡ get_or ds n d →
      fields p l f line id i (drop n ds) w k ≡ set_field p l f line id i (out-RField d) w (and_then k (λ i w. fields p l f line id i (drop (n + 1) ds) w k))
  field_next i ds n d h is =
      ap (λ x. fields p l f line id i x w k) (first_rest ds n d (omega arith) is) ∙ two i d (drop (n + 1) ds) (omega (arith, length-drop (n + 1) ds))

  pub field_last : (i : ℤ) (ds : List RField) (n : ℕ) (d : RField) → n + 1 ≡ length ds → d ≡ get_or ds n d →
      fields p l f line id i (drop n ds) w k ≡ last_field p l f line id i (out-RField d) w k
  field_last i ds n d h is =
      ap (λ x. fields p l f line id i x w k) (first_rest ds n d (omega arith) is ∙ ap (λ x. d ∷ x) (drop_all (n + 1) ds (omega arith)))

  pub field_none : (i : ℤ) (ds : List RField) → length ds ≤ 0 → fields p l f line id i ds w k ≡ k (Ok tt) w
  field_none i [] h = refl
  field_none i (d ∷ ds) h = absurd (omega arith)

  -- ---- items

  pub item_at : (key : ℤ) (vs : List Value) (n : ℕ) (v : Value) → n < length vs → v ≡ get_or vs n v →
      items p l f line id key (drop n vs) w k ≡ put id (V.Int key) v w (and_then k (λ u w. items p l f line id (next_item p l f line key) (drop (n + 1) vs) w k))
  item_at key vs n v h is = ap (λ x. items p l f line id key x w k) (first_rest vs n v h is)

  pub items_end : (key : ℤ) (vs : List Value) (n : ℕ) → length vs ≤ n → items p l f line id key (drop n vs) w k ≡ k (Ok tt) w
  items_end key vs n h = ap (λ x. items p l f line id key x w k) (drop_all n vs h)
