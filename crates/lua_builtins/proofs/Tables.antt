-- The table of the Lanes face.
use Rattle.std.proofs.Common.{◌≡◌, ◌⊎◌, inl, inr, ℕ, ◌+◌, ◌-◌, ◌^◌, ◌<◌, ◌&&◌, ◌++◌, ◌∷◌, [], List, Option, Some, None, Ok, length, refl, ap, ◌∙◌, arith, Bool, true, false, if◌then◌else◌, nat_le, codes}
use Rattle.std.specs.Option.{option_map}
use Rattle.std.specs.Str.{bytes_eq}
use Rattle.std.proofs.lemmas.Bool.Decides.{nat_tests}
use Rattle.lanes_arena.specs.Names.{named}
use Rattle.object_store.specs.declared.value.Value.{Value}
use Rattle.object_store.specs.declared.value.Value.TheVariants as V
use Rattle.object_store.specs.declared.fault.LuaFault.TheVariants as lua
use Rattle.object_store.specs.Value.{TableId}
use Rattle.object_store.specs.Table.{Contents}
use Rattle.object_store.specs.Heap.{Heap, Shown}
use Rattle.lua_ops.specs.Metamethods.{piece}
use Rattle.base_lib.specs.Base.{argument, or_bad}
use Rattle.lua_meaning.specs.declared.fault.Site.{Site}
use Rattle.lua_meaning.specs.Run.{World, Run, Next}
use Rattle.lua_meaning.specs.Level.{Loaded, Level}
use Rattle.lua_meaning.specs.Names.{has_numbers}
use Rattle.lua_meaning.specs.Faults.{fault_at}
use Rattle.lua_meaning.specs.Library.{reading, lanes_contents, lanes_heap, lanes_made, lanes_table, require}
use Rattle.lua_machine.specs.Does.{store_of}
use Rattle.lua_builtins.specs.Parts.{table_ahead}
use Rattle.lua_builtins.proofs.Readings.{is_bad}

-- ---- room for one more table

at_most : (n m : ℕ) → (m < n → ⊥) → nat_le n m ≡ true
at_most n m h = grind (arith, nat_tests)

over : (n m : ℕ) → m < n → nat_le n m ≡ false
over n m h = grind (arith, nat_tests)

none : (t c : Bool) → ((t && false) && c) ≡ false
none true c = refl
none false c = refl

neither : (t f : Bool) → ((t && f) && false) ≡ false
neither true true = refl
neither true false = refl
neither false f = refl

pub room_for_one : (heap : Heap) → ((2 ^ 32 - 1 < length heap.tables + 1) ⊎ (2 ^ 32 - 1 < length heap.functions + 0) ⊎ (2 ^ 32 - 1 < length heap.cells + 0) → ⊥) → has_numbers heap 1 0 0 ≡ true
room_for_one heap h =
    let t : nat_le (length heap.tables + 1) (2 ^ 32 - 1) ≡ true = at_most _ _ (λ x. h (inl x)) in
    let f : nat_le (length heap.functions + 0) (2 ^ 32 - 1) ≡ true = at_most _ _ (λ x. h (inr (inl x))) in
    let c : nat_le (length heap.cells + 0) (2 ^ 32 - 1) ≡ true = at_most _ _ (λ x. h (inr (inr x))) in
    rw (t, f, c) refl

pub room_for_none : (heap : Heap) → (2 ^ 32 - 1 < length heap.tables + 1) ⊎ (2 ^ 32 - 1 < length heap.functions + 0) ⊎ (2 ^ 32 - 1 < length heap.cells + 0) → has_numbers heap 1 0 0 ≡ false
room_for_none heap (inl x) = rw (over _ _ x) refl
room_for_none heap (inr (inl x)) = rw (over _ _ x) (none (nat_le (length heap.tables + 1) (2 ^ 32 - 1)) (nat_le (length heap.cells + 0) (2 ^ 32 - 1)))
room_for_none heap (inr (inr x)) = rw (over _ _ x) (neither (nat_le (length heap.tables + 1) (2 ^ 32 - 1)) (nat_le (length heap.functions + 0) (2 ^ 32 - 1)))

-- ---- the table

abbrev table_id : ℕ → TableId
table_id n = record { number = n; kind = record {} }

pub table_is : (id : TableId) (w : World) → id.number ≡ length w.store.heap.tables → id ≡ table_ahead w
table_is id w e = ap (λ n. table_id n) e

pub no_some : {A : Type 0} (o : Option A) → ((x : A) → o ≡ Some x → ⊥) → o ≡ None
no_some None h = refl
no_some (Some x) h = absurd (h x refl)

module _ (p : Loaded) (l : Level) (site : Site) where
  pub made : (s s1 s2 s3 : Shown) (t : Contents) (id : TableId) → s1.heap ≡ s.heap → s1.texts ≡ named s.texts (codes "linda") → s2.heap ≡ record (s1.heap) { tables = s1.heap.tables ++ t ∷ [] } → s2.texts ≡ s1.texts →
      s3 ≡ record s2 { heap = record (s2.heap) { lanes_table = Some id } } → t ≡ record { pairs = lanes_contents p l site s.texts; meta = None } →
      store_of s3 ≡ record { heap = lanes_heap p l site s.heap s.texts id; texts = named s.texts (codes "linda") }
  made s s1 s2 s3 t id h x h2 x2 e c = rw (e, h2, x2, h, x, c) refl

  pub table_known : (o : Option TableId) (id : TableId) (w : World) (k : Next (List Value)) → o ≡ Some id → lanes_table p l site o w k ≡ k (Ok (V.Table id ∷ [])) w
  table_known o id w k e = ap (λ o. lanes_table p l site o w k) e

  pub table_new : (o : Option TableId) (w : World) (k : Next (List Value)) → o ≡ None → has_numbers w.store.heap 1 0 0 ≡ true → lanes_table p l site o w k ≡ lanes_made p l site (table_ahead w) w k
  table_new o w k e n = ap (λ o. lanes_table p l site o w k) e ∙ ap (λ b. if b then lanes_made p l site (table_ahead w) w k else fault_at p site.line lua.Full w k) n

  pub table_full : (o : Option TableId) (w : World) (k : Next (List Value)) → o ≡ None → has_numbers w.store.heap 1 0 0 ≡ false → lanes_table p l site o w k ≡ fault_at p site.line lua.Full w k
  table_full o w k e n = ap (λ o. lanes_table p l site o w k) e ∙ ap (λ b. if b then lanes_made p l site (table_ahead w) w k else fault_at p site.line lua.Full w k) n

-- ---- require

module _ (p : Loaded) (l : Level) (site : Site) (w : World) (k : Next (List Value)) (args : List Value) where
  require_next : List ℕ → Run
  require_next name = if bytes_eq name (codes "lanes") then lanes_table p l site w.store.heap.lanes_table w k else fault_at p site.line lua.NoModule w k

  -- whether the first argument names the Lanes face
  abbrev pub asks_lanes : Option (List ℕ) → Option Bool
  asks_lanes o = option_map (λ name. bytes_eq name (codes "lanes")) o

  require_at : (o : Option (List ℕ)) (b : Bool) → asks_lanes o ≡ Some b → reading p l site (or_bad (codes "require") 1 o) w k require_next ≡ (if b then lanes_table p l site w.store.heap.lanes_table w k else fault_at p site.line lua.NoModule w k)
  unfolding require_next
  require_at None b e = cc
  require_at (Some name) b e =
      let d : bytes_eq name (codes "lanes") ≡ b = cc in
      ap (λ b. if b then lanes_table p l site w.store.heap.lanes_table w k else fault_at p site.line lua.NoModule w k) d

  names_none : (o : Option (List ℕ)) → asks_lanes o ≡ None → o ≡ None
  names_none None e = refl
  names_none (Some name) e = cc

  pub require_bad : asks_lanes (piece w.store.texts (argument 1 args)) ≡ None → require p l site args w k ≡ fault_at p site.line (lua.BadArgument 1 (codes "require")) w k
  unfolding require_next
  require_bad e = is_bad p l site (codes "require") 1 w k require_next (piece w.store.texts (argument 1 args)) (names_none (piece w.store.texts (argument 1 args)) e)

  pub require_lanes : asks_lanes (piece w.store.texts (argument 1 args)) ≡ Some true → require p l site args w k ≡ lanes_table p l site w.store.heap.lanes_table w k
  unfolding require_next
  require_lanes e = require_at (piece w.store.texts (argument 1 args)) true e

  pub require_other : asks_lanes (piece w.store.texts (argument 1 args)) ≡ Some false → require p l site args w k ≡ fault_at p site.line lua.NoModule w k
  unfolding require_next
  require_other e = require_at (piece w.store.texts (argument 1 args)) false e
