-- Locals that are declared with values on the stack.
use Rattle.std.proofs.Common.{◌≡◌, ℕ, ◌+◌, ◌-◌, ◌<◌, ◌≤◌, Result, Ok, Err, Some, None, List, [], ◌∷◌, length, drop, take, get_or, refl, sym, ap, ◌∙◌, arith, add-one, drop-cons}
use Rattle.std.specs.Prelude.{slice_get}
use Rattle.std.specs.Option.{unwrap_or}
use Rattle.std.proofs.lemmas.Option.{unwrap_or-slice_get}
use Rattle.std.proofs.lemmas.List.{drop_all, drop-drop, get_or-drop, length-drop, length-take-le}
use Rattle.lua_program.specs.declared.expr.Ref.{Ref}
use Rattle.object_store.specs.declared.value.Value.{Value}
use Rattle.lua_meaning.specs.Run.{World, Run, Next, and_then}
use Rattle.lua_meaning.specs.Level.{Loaded, Frame, Locals}
use Rattle.lua_meaning.specs.Names.{first}
use Rattle.lua_meaning.specs.Statements.{with_locals, declare, declare_all}
use Rattle.lua_machine.specs.Piled.{Piled, cut}
use Rattle.lua_machine.specs.declared.machine.Window.{Window}
use Rattle.lua_machine.specs.Does.{Fits, Around, frame}
use Rattle.lua_machine.proofs.Windows.{take_take, drop_past}
use Rattle.lua_machine.proofs.Frames.{frame_on}

-- ---- values from a place of the stack on

first_of_drop : (t : List Value) (i : ℕ) (x : Value) → i < length t → first (drop i t) ≡ get_or t i x
first_of_drop t i x h = let e : drop i t ≡ get_or t i x ∷ drop (i + 1) t = rw (add-one, drop-cons t i x) in ap first e

pub first_at : (s : List Value) (at i : ℕ) (x : Value) → at + i < length s → slice_get s (at + i) ≡ Some x → x ≡ first (drop i (drop at s))
first_at s at i x h e =
    let is : unwrap_or (Some x) x ≡ get_or s (at + i) x = ap (λ o. unwrap_or o x) (sym e) ∙ unwrap_or-slice_get s (at + i) x in
    is ∙ sym (get_or-drop at s i x) ∙ sym (first_of_drop (drop at s) i x (omega (arith, length-drop at s)))

-- what lies past a place, where it is the same past a lower one
pub same_from : (n at : ℕ) (s s1 : List Value) → n ≤ at → drop n s1 ≡ drop n s → drop at s1 ≡ drop at s
same_from n at s s1 h e =
    let n1 : n + (at - n) ≡ at = omega arith in
    ap (λ a. drop a s1) (sym n1) ∙ sym (drop-drop (at - n) n s1) ∙ ap (drop (at - n)) e ∙ drop-drop (at - n) n s ∙ ap (λ a. drop a s) n1

-- ---- the stack without them

module _ (f : Window) (s : Piled) (at : ℕ) (fits : Fits f s) (above : f.base + f.size ≤ at) (within : at ≤ length s.values) where
  pub fits_cut : Fits f (cut at s)
  fits_cut = record { dots = fits.dots; slots = omega (arith, above, length-take-le at s.values within); cells = fits.cells }

  pub frame_cut : frame f (cut at s) ≡ frame f s
  frame_cut = sym (frame_on f (cut at s) s fits_cut (ap (λ n. take n s.values) (length-take-le at s.values within)) refl)

pub around_cut : (f : Window) (s s1 : Piled) (at : ℕ) → f.base ≤ at → at ≤ length s.values → Around f s s1 → Around f (cut at s) (cut at s1)
around_cut f s s1 at above within a = record {
  count = length-take-le at s1.values (omega (arith, within, a.count)) ∙ sym (length-take-le at s.values within);
  values = take_take f.base at s1.values above ∙ a.values ∙ sym (take_take f.base at s.values above);
  within = a.within;
  cells = a.cells;
}

-- ---- one local after another

module _ (p : Loaded) (rs : List Ref) (vs : List Value) (i : ℕ) (f : Frame) (w : World) (k : Next Locals) where
  abbrev pub declare_next : Locals → World → Run
  declare_next locals w = declare_all p (drop (i + 1) rs) (drop (i + 1) vs) (with_locals f locals) w k

  pub declare_at : (r : Ref) → i < length rs → r ≡ get_or rs i r → declare_all p (drop i rs) (drop i vs) f w k ≡ declare p f r (first (drop i vs)) w (and_then k declare_next)
  declare_at r h is =
      let e : drop i rs ≡ get_or rs i r ∷ drop (i + 1) rs = rw (add-one, drop-cons rs i r) in
      ap (λ x. declare_all p x (drop i vs) f w k) (e ∙ ap (λ x. x ∷ drop (i + 1) rs) (sym is))
      ∙ ap (λ x. declare p f r (first (drop i vs)) w (and_then k (λ locals w. declare_all p (drop (i + 1) rs) x (with_locals f locals) w k))) (sym (drop_past i vs))

  pub declare_end : length rs ≤ i → declare_all p (drop i rs) (drop i vs) f w k ≡ k (Ok f.locals) w
  declare_end h = ap (λ x. declare_all p x (drop i vs) f w k) (drop_all i rs h)
