-- Values that were received, one after another.
use Rattle.std.proofs.Common.{◌≡◌, ℕ, ◌+◌, ◌<◌, ◌≤◌, ◌++◌, ◌∷◌, [], List, Ok, length, take, drop, get_or, sym, ap, ◌∙◌, add-one, drop-cons, arith, length-append}
use Rattle.std.proofs.lemmas.List.{drop_all, drop-append-le, take-append-le}
use Rattle.object_store.specs.declared.value.Value.{Value}
use Rattle.linda_core.specs.declared.item.Item.{Item}
use Rattle.lanes_lib.specs.Face.{item_piece, item_pieces}
use Rattle.lua_meaning.specs.declared.fault.Site.{Site}
use Rattle.lua_meaning.specs.Run.{World, Run, Next, and_then}
use Rattle.lua_meaning.specs.Level.{Loaded, Level}
use Rattle.lua_meaning.specs.Library.{place_piece, placed}
use Rattle.lua_machine.specs.Piled.{Piled, with_values}
use Rattle.lua_machine.specs.Does.{Above}

module _ (p : Loaded) (l : Level) (site : Site) (k : Next (List Value)) where
  -- what follows one value
  abbrev pub placed_next : List Value → List Item → Value → World → Run
  placed_next vs xs v w = placed p l site (vs ++ v ∷ []) (item_pieces xs) w k

  pub placed_at : (vs : List Value) (xs : List Item) (i : ℕ) (x : Item) (w : World) → i < length xs → x ≡ get_or xs i x → placed p l site vs (item_pieces (drop i xs)) w k ≡ place_piece p l site (item_piece x) w (and_then k (placed_next vs (drop (i + 1) xs)))
  placed_at vs xs i x w h is =
      let e : drop i xs ≡ get_or xs i x ∷ drop (i + 1) xs = rw (add-one, drop-cons xs i x) in
      ap (λ y. placed p l site vs (item_pieces y) w k) (e ∙ ap (λ y. y ∷ drop (i + 1) xs) (sym is))

  pub placed_end : (vs : List Value) (xs : List Item) (i : ℕ) (w : World) → length xs ≤ i → placed p l site vs (item_pieces (drop i xs)) w k ≡ k (Ok vs) w
  placed_end vs xs i w h = ap (λ y. placed p l site vs (item_pieces y) w k) (drop_all i xs h)

-- one more value above a place
pub one_more : (at : ℕ) (s : List Value) (v : Value) → at ≤ length s → drop at (s ++ v ∷ []) ≡ drop at s ++ v ∷ []
one_more at s v h = drop-append-le at s (v ∷ []) h

pub above_push : (at : ℕ) (s s1 s2 : Piled) (v : Value) → Above at s s1 → s2 ≡ with_values s1 (s1.values ++ v ∷ []) → Above at s s2
above_push at s s1 s2 v a e = record {
  within = omega (arith, a.within, ap (λ x. length x.values) e, length-append s1.values (v ∷ []));
  values = ap (λ x. take at x.values) e ∙ take-append-le at s1.values (v ∷ []) a.within ∙ a.values;
  cells = ap (λ x. x.cells) e ∙ a.cells;
}
