-- The cells of parameters, one after another.
use Rattle.std.proofs.Common.{◌≡◌, ℕ, ◌+◌, ◌<◌, ◌≤◌, Some, None, Ok, Bool, true, false, List, ◌∷◌, length, take, drop, get_or, sym, ap, ◌∙◌, arith, add-one, drop-cons, length-drop}
use Rattle.std.specs.Prelude.{slice_get}
use Rattle.std.proofs.lemmas.List.{drop_all, get_or-take, get_or-drop, length-take-le}
use Rattle.std.proofs.lemmas.Option.{slice_get-get_or, slice_get_past, get_or_from_slice_get}
use Rattle.object_store.specs.declared.value.Value.{Value}
use Rattle.lua_machine.specs.Piled.{Piled}
use Rattle.lua_machine.specs.declared.machine.Window.{Window}
use Rattle.lua_machine.specs.Does.{Fits}
use Rattle.lua_meaning.specs.Run.{World, Run, Next, and_then}
use Rattle.lua_meaning.specs.Level.{Loaded, Frame, Locals, or_broken}
use Rattle.lua_meaning.specs.Statements.{with_locals}
use Rattle.lua_meaning.specs.Calls.{param_cell, param_cells}

-- ---- the slot of a window

module _ (f : Window) (s : Piled) (i : ℕ) (fits : Fits f s) where
  size : length (take f.size (drop f.base s.values)) ≡ f.size
  size = length-take-le f.size (drop f.base s.values) (omega (arith, length-drop f.base s.values, fits.slots))

  pub slot_there : (v : Value) → i < f.size → slice_get s.values (f.base + i) ≡ Some v → slice_get (take f.size (drop f.base s.values)) i ≡ Some v
  slot_there v h e =
      slice_get-get_or (take f.size (drop f.base s.values)) i v (omega (arith, size))
      ∙ ap Some (get_or-take f.size (drop f.base s.values) i v h ∙ get_or-drop f.base s.values i v ∙ get_or_from_slice_get s.values (f.base + i) v v e)

  pub slot_past : f.size ≤ i → slice_get (take f.size (drop f.base s.values)) i ≡ None
  slot_past h = slice_get_past (take f.size (drop f.base s.values)) i (omega (arith, size))

-- ---- one parameter after another

module _ (p : Loaded) (line : ℕ) (cells : List Bool) (i : ℕ) (f : Frame) (w : World) (k : Next Locals) where
  abbrev pub param_next : Locals → World → Run
  param_next locals w = param_cells p line (i + 1) (drop (i + 1) cells) (with_locals f locals) w k

  rest : (b d : Bool) → i < length cells → get_or cells i d ≡ b → drop i cells ≡ b ∷ drop (i + 1) cells
  rest b d h is =
      let e : drop i cells ≡ get_or cells i d ∷ drop (i + 1) cells = rw (add-one, drop-cons cells i d) in
      e ∙ ap (λ x. x ∷ drop (i + 1) cells) is

  pub param_here : (d : Bool) → i < length cells → get_or cells i d ≡ true → param_cells p line i (drop i cells) f w k ≡ param_cell p line i (or_broken (slice_get f.locals.slots i)) f w (and_then k param_next)
  param_here d h is =
      ap (λ x. param_cells p line i x f w k) (rest true d h is)
      ∙ ap (λ n. param_cell p line i (or_broken (slice_get f.locals.slots i)) f w (and_then k (λ locals w. param_cells p line n (drop (i + 1) cells) (with_locals f locals) w k))) (sym (add-one i))

  pub param_passed : (d : Bool) → i < length cells → get_or cells i d ≡ false → param_cells p line i (drop i cells) f w k ≡ param_cells p line (i + 1) (drop (i + 1) cells) f w k
  param_passed d h is =
      ap (λ x. param_cells p line i x f w k) (rest false d h is) ∙ ap (λ n. param_cells p line n (drop (i + 1) cells) f w k) (sym (add-one i))

  pub param_end : length cells ≤ i → param_cells p line i (drop i cells) f w k ≡ k (Ok f.locals) w
  param_end h = ap (λ x. param_cells p line i x f w k) (drop_all i cells h)
