-- Values that come into slots and cells.
use Rattle.std.proofs.Common.{◌≡◌, ◌⊎◌, inl, inr, ◌&&◌, nat_le, ℕ, ◌+◌, ◌-◌, ◌^◌, ◌<◌, ◌≤◌, ◌++◌, ◌∷◌, [], Result, Ok, Err, subst, Bool, true, false, List, Some, length, take, drop, refl, sym, ap, ◌∙◌, arith, nat_lt, length-append}
use Rattle.std.proofs.Math.ListN.{set}
use Rattle.std.proofs.Math.Seq.{take-set-lt, drop-append_seam, take-append_seam}
use Rattle.std.proofs.lemmas.List.{take-set-le, drop-set-add, length-set, length-take-le, length-drop}
use Rattle.std.proofs.lemmas.Bool.Decides.{nat_tests}
use Rattle.object_store.specs.declared.value.Value.{Value}
use Rattle.object_store.specs.Heap.{Heap}
use Rattle.lanes_lib.specs.declared.ask.Ask.{Ask}
use Rattle.lanes_lib.specs.declared.ask.Answer.{Answer}
use Rattle.lua_meaning.specs.declared.fault.Fault.TheVariants as F
use Rattle.lua_meaning.specs.Run.{World, Run, Next, Leads, here, reaches, written, with_heap}
use Rattle.lua_meaning.specs.Level.{CellId, cell_id}
use Rattle.lua_meaning.specs.Names.{put_slot, put_cell, has_numbers, with_cell, enclosed, set_cell, set_content}
use Rattle.lua_machine.specs.Piled.{Piled, with_values, with_cells, cells_with}
use Rattle.lua_machine.specs.declared.machine.Machine.{Machine}
use Rattle.lua_machine.specs.declared.machine.Window.{Window}
use Rattle.lua_machine.specs.declared.machine.Done.TheVariants.{Well, Failed}
use Rattle.lua_machine.specs.Does.{point, Fits, world, locals, Around}
use Rattle.lua_machine.specs.Moved.{LocalsOf}
use Rattle.lua_machine.proofs.Leads.{same_run}
use Rattle.lua_machine.proofs.Windows.{from_seam, to_seam, seam_length}
use Rattle.lua_machine.proofs.Frames.{around_same}

slots_length : (f : Window) (s : Piled) → Fits f s → length (take f.size (drop f.base s.values)) ≡ f.size
slots_length f s fits = length-take-le f.size (drop f.base s.values) (omega (arith, length-drop f.base s.values, fits.slots))

slots_set : (f : Window) (s : List Value) (i : ℕ) (v : Value) → i < f.size → take f.size (drop f.base (set s (f.base + i) v)) ≡ set (take f.size (drop f.base s)) i v
slots_set f s i v h = ap (take f.size) (drop-set-add f.base s i v) ∙ take-set-lt f.size (drop f.base s) i v h

put_there : (f : Window) (s : Piled) (i : ℕ) (v : Value) → Fits f s → i < f.size → put_slot i v (locals f s) ≡ Ok (locals f (with_values s (set s.values (f.base + i) v)))
put_there f s i v fits h =
    let n : length (take f.size (drop f.base s.values)) ≡ f.size = slots_length f s fits in
    let b : nat_lt i (length (take f.size (drop f.base s.values))) ≡ true = grind (arith, nat_tests) in
    rw (b, slots_set f s.values i v h) refl

put_past : (f : Window) (s : Piled) (i : ℕ) (v : Value) → Fits f s → (i < f.size → ⊥) → put_slot i v (locals f s) ≡ Err F.Broken
put_past f s i v fits h =
    let n : length (take f.size (drop f.base s.values)) ≡ f.size = slots_length f s fits in
    let b : nat_lt i (length (take f.size (drop f.base s.values))) ≡ false = grind (arith, nat_tests) in
    rw b refl

module _ {H : Type 0} (asked : H → Ask → Answer → H → Type 0) (m m1 : Machine H) (f : Window) (i : ℕ) (fits : Fits f m.stack) where
  pub put_well : i < f.size → m1 ≡ record m { stack = with_values m.stack (set m.stack.values (f.base + i) m.value) } → LocalsOf asked (λ k. k (put_slot i m.value (locals f m.stack)) (world m)) m f Well m1
  put_well h e = record {
    leads = λ k. rw e (same_run refl (ap (λ o. k o (world m)) (put_there f m.stack i m.value fits h)));
    stack = rw e (record {
      count = length-set m.stack.values (f.base + i) m.value;
      values = take-set-le f.base m.stack.values (f.base + i) m.value (omega arith);
      within = fits.cells;
      cells = refl;
    });
  }

  pub put_failed : (i < f.size → ⊥) → m1 ≡ record m { fault = F.Broken } → LocalsOf asked (λ k. k (put_slot i m.value (locals f m.stack)) (world m)) m f Failed m1
  put_failed h e = record { leads = λ k. rw e (same_run refl (ap (λ o. k o (world m)) (put_past f m.stack i m.value fits h))); stack = tt }

-- ---- cells

pub cell_is : (c : CellId) (n : ℕ) → c.number ≡ n → c ≡ cell_id n
cell_is c n e = ap (λ x. cell_id x) e

at_most : (n m : ℕ) → (m < n → ⊥) → nat_le n m ≡ true
at_most n m h = grind (arith, nat_tests)

above : (n m : ℕ) → m < n → nat_le n m ≡ false
above n m h = grind (arith, nat_tests)

none : (t c : Bool) → ((t && false) && c) ≡ false
none true c = refl
none false c = refl

neither : (t f : Bool) → ((t && f) && false) ≡ false
neither true true = refl
neither true false = refl
neither false f = refl

-- there is room for one more cell, unless one of the kinds has too many
pub has_room : (heap : Heap) → ((2 ^ 32 - 1 < length heap.tables + 0) ⊎ (2 ^ 32 - 1 < length heap.functions + 0) ⊎ (2 ^ 32 - 1 < length heap.cells + 1) → ⊥) → has_numbers heap 0 0 1 ≡ true
has_room heap h =
    let t : nat_le (length heap.tables + 0) (2 ^ 32 - 1) ≡ true = at_most _ _ (λ x. h (inl x)) in
    let f : nat_le (length heap.functions + 0) (2 ^ 32 - 1) ≡ true = at_most _ _ (λ x. h (inr (inl x))) in
    let c : nat_le (length heap.cells + 1) (2 ^ 32 - 1) ≡ true = at_most _ _ (λ x. h (inr (inr x))) in
    rw (t, f, c) refl

pub has_none : (heap : Heap) → (2 ^ 32 - 1 < length heap.tables + 0) ⊎ (2 ^ 32 - 1 < length heap.functions + 0) ⊎ (2 ^ 32 - 1 < length heap.cells + 1) → has_numbers heap 0 0 1 ≡ false
has_none heap (inl x) = rw (above _ _ x) refl
has_none heap (inr (inl x)) = rw (above _ _ x) (none (nat_le (length heap.tables + 0) (2 ^ 32 - 1)) (nat_le (length heap.cells + 1) (2 ^ 32 - 1)))
has_none heap (inr (inr x)) = rw (above _ _ x) (neither (nat_le (length heap.tables + 0) (2 ^ 32 - 1)) (nat_le (length heap.functions + 0) (2 ^ 32 - 1)))

pub less_is : (n m : ℕ) → n < m → nat_lt n m ≡ true
less_is n m h = grind (arith, nat_tests)

pub less_not : (n m : ℕ) → (n < m → ⊥) → nat_lt n m ≡ false
less_not n m h = grind (arith, nat_tests)

module _ (f : Window) (s s1 : Piled) (i : ℕ) (c : CellId) (fits : Fits f s) (e : s1 ≡ with_cells s (take f.cells s.cells ++ cells_with i c (drop f.cells s.cells))) where
  pub cell_locals : locals f s1 ≡ put_cell i c (locals f s)
  cell_locals = rw (e, from_seam f.cells s.cells (cells_with i c (drop f.cells s.cells)) fits.cells) refl

  pub cell_around : Around f s s1
  cell_around = record {
    count = ap (λ x. length x.values) e;
    values = ap (λ x. take f.base x.values) e;
    within = omega (arith, ap (λ x. length x.cells) e, seam_length f.cells s.cells (cells_with i c (drop f.cells s.cells)) fits.cells);
    cells = ap (λ x. take f.cells x.cells) e ∙ to_seam f.cells s.cells (cells_with i c (drop f.cells s.cells)) fits.cells;
  }

module _ (full : World → Next CellId → Run) (v : Value) (w : World) (k : Next CellId) where
  pub enclosed_goes : has_numbers w.store.heap 0 0 1 ≡ true → enclosed full v w k ≡ written (with_heap w.store (with_cell w.store.heap v)) (cell_id (length w.store.heap.cells)) w k
  enclosed_goes e = rw e refl

  pub enclosed_full : has_numbers w.store.heap 0 0 1 ≡ false → enclosed full v w k ≡ full w k
  enclosed_full e = rw e refl

ok_holds : {A B : Type 0} → Result A B → Type 0
ok_holds (Ok a) = Unit {0}
ok_holds (Err b) = ⊥

pub no_err : {A B : Type 0} (a : A) (b : B) → Ok a ≡ Err b → ⊥
unfolding ok_holds
no_err {A} {B} a b e = subst (ok_holds {A = A} {B = B}) e tt

module _ (c : CellId) (v : Value) (w : World) (k : Next (Unit {0})) where
  pub set_goes : c.number < length w.store.heap.cells → set_cell (Some c) v w k ≡ written (with_heap w.store (set_content w.store.heap c.number v)) tt w k
  set_goes h = rw (less_is c.number (length w.store.heap.cells) h) refl

  pub set_fails : (c.number < length w.store.heap.cells → ⊥) → set_cell (Some c) v w k ≡ k (Err F.Broken) w
  set_fails h = rw (less_not c.number (length w.store.heap.cells) h) refl

is_false : Bool → Type 0
is_false true = ⊥
is_false false = Unit {0}

pub no_true : false ≡ true → ⊥
unfolding is_false
no_true e = subst is_false e tt
