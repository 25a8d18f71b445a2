-- Frames on a stack.
use Rattle.std.proofs.Common.{◌≡◌, ℕ, zero, suc, ◌+◌, ◌-◌, ◌<◌, ◌≤◌, List, [], ◌∷◌, ◌++◌, length, take, drop, refl, sym, ap, ◌∙◌, arith, length-drop}
use Rattle.std.proofs.lemmas.List.{drop-take, length-take-le, drop_all}
use Rattle.std.proofs.Math.Seq.{drop-append_seam, take-append_seam, take-length}
use Rattle.std.proofs.Math.ListN.{drop_of_length-le}
use Rattle.object_store.specs.declared.value.Value.{Value}
use Rattle.object_store.specs.declared.value.Functions.{Functions}
use Rattle.lanes_arena.specs.declared.id.Id.{Id}
use Rattle.lua_meaning.specs.Names.{filled}
use Rattle.lua_meaning.specs.Level.{CellId, Frame, Locals}
use Rattle.lua_machine.specs.Piled.{Piled, cut, with_values}
use Rattle.lua_machine.specs.declared.machine.Window.{Window}
use Rattle.lua_machine.specs.Does.{Fits, frame, locals, range, Above, Around, Over}
use Rattle.lua_machine.proofs.Windows.{within, short, filled_length, from_seam, take_take}

-- ---- on a longer stack

module _ (f : Window) (s s1 : Piled) (fits : Fits f s) where
  pub frame_on : take (length s.values) s1.values ≡ s.values → s1.cells ≡ s.cells → frame f s1 ≡ frame f s
  frame_on e c =
      let dots : range f.dots f.base s1.values ≡ range f.dots f.base s.values =
      within (f.base - f.dots) f.dots s.values s1.values e (omega (arith, fits.dots, fits.slots)) in
      let slots : take f.size (drop f.base s1.values) ≡ take f.size (drop f.base s.values) =
      within f.size f.base s.values s1.values e fits.slots in
      let cells : drop f.cells s1.cells ≡ drop f.cells s.cells = ap (drop f.cells) c in
      cc

  -- values that stand above change nothing of the frame
  pub frame_above : Above (length s.values) s s1 → frame f s1 ≡ frame f s
  frame_above a = frame_on (a.values ∙ take-length s.values) a.cells

  pub fits_above : Above (length s.values) s s1 → Fits f s1
  fits_above a = record {
    dots = fits.dots;
    slots = omega (arith, fits.slots, a.within);
    cells = omega (arith, fits.cells, ap length a.cells);
  }

-- ---- after a statement

-- what lies below a place up to which two stacks are the same
same_within : (n k b : ℕ) (s s1 : List Value) → take b s1 ≡ take b s → k + n ≤ b → take n (drop k s1) ≡ take n (drop k s)
same_within n k b s s1 e h =
    sym (drop-take k n s1) ∙ ap (drop k) (sym (take_take (k + n) b s1 h) ∙ ap (take (k + n)) e ∙ take_take (k + n) b s h) ∙ drop-take k n s

pub below_less : (n b : ℕ) (s s1 : List Value) → n ≤ b → take b s1 ≡ take b s → take n s1 ≡ take n s
below_less n b s s1 h e = sym (take_take n b s1 h) ∙ ap (take n) e ∙ take_take n b s h

module _ (f : Window) (s s1 : Piled) (fits : Fits f s) (a : Around f s s1) where
  pub frame_around : frame f s1 ≡ record (frame f s) { locals = locals f s1 }
  frame_around =
      let dots : range f.dots f.base s1.values ≡ range f.dots f.base s.values =
      same_within (f.base - f.dots) f.dots f.base s.values s1.values a.values (omega (arith, fits.dots)) in
      cc

  pub fits_around : Fits f s1
  fits_around = record { dots = fits.dots; slots = omega (arith, fits.slots, a.count); cells = a.within }

pub around_same : (f : Window) (s s1 : Piled) → Fits f s → s1 ≡ s → Around f s s1
around_same f s s1 fits e = record {
  count = ap (λ x. length x.values) e;
  values = ap (λ x. take f.base x.values) e;
  within = omega (arith, fits.cells, ap (λ x. length x.cells) e);
  cells = ap (λ x. take f.cells x.cells) e;
}

pub around_then : (f : Window) (s s1 s2 : Piled) → Around f s s1 → Around f s1 s2 → Around f s s2
around_then f s s1 s2 a b = record {
  count = b.count ∙ a.count;
  values = b.values ∙ a.values;
  within = b.within;
  cells = b.cells ∙ a.cells;
}

pub over_after : (f : Window) (s s1 s2 : Piled) → Around f s s1 → Over f s1 s2 → Over f s s2
over_after f s s1 s2 a b = record {
  count = omega (arith, a.count, b.count);
  values = b.values ∙ a.values;
  within = b.within;
  cells = b.cells ∙ a.cells;
}

-- ---- the frame of a call

module _ (at from slots : ℕ) (me : Id Functions) (s : Piled) (xs : List Value) (h : at ≤ length s.values) where
  pub frame_opened : frame (record { dots = at; base = at; size = slots; cells = length s.cells; me = me; from = from })
      (with_values s (take at s.values ++ filled slots xs))
      ≡ record { me = me.number; from = from; dots = []; locals = record { slots = filled slots xs; cells = [] } }
  frame_opened =
      let e0 : at - at ≡ 0 = omega arith in
      let e1 : drop at (take at s.values ++ filled slots xs) ≡ filled slots xs = from_seam at s.values (filled slots xs) h in
      let e2 : take slots (filled slots xs) ≡ filled slots xs = short slots (filled slots xs) (omega (arith, filled_length slots xs)) in
      let d : range at at (take at s.values ++ filled slots xs) ≡ [] = ap (λ k. take k (drop at (take at s.values ++ filled slots xs))) e0 in
      let v : take slots (drop at (take at s.values ++ filled slots xs)) ≡ filled slots xs = ap (take slots) e1 ∙ e2 in
      let c : drop (length s.cells) s.cells ≡ [] = drop_of_length-le s.cells (omega arith) in
      cc

module _ (base from slots dots : ℕ) (me : Id Functions) (s : Piled) (xs rest : List Value) where
  pub frame_above_args : base ≡ length s.values → dots ≤ length s.values → drop dots s.values ≡ rest →
      frame (record { dots = dots; base = base; size = slots; cells = length s.cells; me = me; from = from })
      (with_values s (s.values ++ filled slots xs))
      ≡ record { me = me.number; from = from; dots = rest; locals = record { slots = filled slots xs; cells = [] } }
  frame_above_args eb h e =
      let e1 : drop base (s.values ++ filled slots xs) ≡ filled slots xs = ap (λ n. drop n (s.values ++ filled slots xs)) eb ∙ drop-append_seam s.values (filled slots xs) in
      let e2 : take slots (filled slots xs) ≡ filled slots xs = short slots (filled slots xs) (omega (arith, filled_length slots xs)) in
      let v : take slots (drop base (s.values ++ filled slots xs)) ≡ filled slots xs = ap (take slots) e1 ∙ e2 in
      let d1 : take (base - dots) (drop dots (s.values ++ filled slots xs)) ≡ take (base - dots) (drop dots s.values) = within (base - dots) dots s.values (s.values ++ filled slots xs) (take-append_seam s.values (filled slots xs)) (omega (arith, eb, h)) in
      let d2 : take (base - dots) (drop dots s.values) ≡ drop dots s.values = short (base - dots) (drop dots s.values) (omega (arith, eb, length-drop dots s.values)) in
      let d : range dots base (s.values ++ filled slots xs) ≡ rest = d1 ∙ d2 ∙ e in
      let c : drop (length s.cells) s.cells ≡ [] = drop_of_length-le s.cells (omega arith) in
      cc
