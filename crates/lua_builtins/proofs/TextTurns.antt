-- Texts of values.
use Rattle.std.proofs.Common.{◌≡◌, ℕ, ◌+◌, ◌<◌, ◌≤◌, ◌++◌, ◌∷◌, [], List, Some, None, Ok, Err, length, drop, get_or, refl, sym, ap, ◌∙◌, true, false, if◌then◌else◌, codes, add-one, drop-cons}
use Rattle.std.specs.Prelude.{slice_get, Result}
use Rattle.std.specs.Result.{is_ok, is_err}
use Rattle.std.specs.Option.{unwrap_or}
use Rattle.std.proofs.lemmas.Option.{unwrap_or-slice_get, slice_get_within}
use Rattle.std.proofs.Math.Seq.{drop-append_seam}
use Rattle.std.proofs.lemmas.List.{drop_all}
use Rattle.object_store.specs.declared.value.Value.{Value}
use Rattle.object_store.specs.declared.value.Value.TheVariants as V
use Rattle.object_store.specs.declared.fault.LuaFault.TheVariants as lua
use Rattle.object_store.specs.Value.{is_nil}
use Rattle.lanes_lib.specs.declared.ask.Ask.{Ask}
use Rattle.lanes_lib.specs.declared.ask.Ask.TheVariants as ask
use Rattle.lanes_lib.specs.declared.ask.Answer.{Answer}
use Rattle.base_lib.specs.Shown.{shown}
use Rattle.lua_meaning.specs.declared.fault.Site.{Site}
use Rattle.lua_meaning.specs.Run.{World, Run, Next, here, and_then, interned}
use Rattle.lua_meaning.specs.Level.{Loaded, Level}
use Rattle.lua_meaning.specs.Faults.{fault_at}
use Rattle.lua_meaning.specs.Library.{text_of, to_text, to_text_by, to_string, print, print_rest, asked}
use Rattle.lua_machine.specs.declared.machine.Machine.{Machine}
use Rattle.lua_machine.specs.declared.machine.Done.TheVariants.{Well}
use Rattle.lua_machine.specs.Does.{world}
use Rattle.lua_machine.proofs.Windows.{drop_past}
use Rattle.lua_builtins.specs.Gives.{TextOf}
use Rattle.lua_builtins.specs.Parts.{called_text}
use Rattle.lua_builtins.proofs.Readings.{is_there, is_bad}

-- what a part that may be refused did, where it wasn't
pub if_fine : {A B X : Type 0} (r : Result A B) (x a b : X) → is_err r ≡ false → x ≡ (if is_ok r then a else b) → x ≡ a
if_fine (Ok v) x a b e h = h
if_fine (Err v) x a b e h = cc

-- a text that was added
module _ {H : Type 0} (asked : H → Ask → Answer → H → Type 0) (m : Machine H) (line t line1 : List ℕ) where
  pub text_given : line1 ≡ line ++ t → TextOf asked (λ k. k (Ok t) (world m)) m line Well line1 m
  text_given e = record { leads = λ k. rw (e, drop-append_seam line t) here; text = rw (e, drop-append_seam line t) refl; stack = refl }

module _ (p : Loaded) (l : Level) (site : Site) (w : World) (k : Next (List ℕ)) where
  pub text_of_other : (v : Value) → ((id : _) → v ≡ V.Str id → ⊥) → text_of p l site v w k ≡ fault_at p site.line lua.BadToString w k
  text_of_other V.Nil h = refl
  text_of_other V.False h = refl
  text_of_other V.True h = refl
  text_of_other (V.Int n) h = refl
  text_of_other (V.Str n) h = absurd (h n refl)
  text_of_other (V.Table n) h = refl
  text_of_other (V.Func n) h = refl
  text_of_other (V.Lib n) h = refl
  text_of_other (V.Linda n) h = refl
  text_of_other (V.Lane n) h = refl
  text_of_other (V.Light n) h = refl

  pub to_text_plain : (h v : Value) → is_nil h ≡ true → to_text_by p l site h v w k ≡ k (Ok (shown w.store.texts v)) w
  to_text_plain h v e = ap (λ b. if b then k (Ok (shown w.store.texts v)) w else called_text p l site h v w k) e

  pub to_text_called : (h v : Value) → is_nil h ≡ false → to_text_by p l site h v w k ≡ called_text p l site h v w k
  to_text_called h v e = ap (λ b. if b then k (Ok (shown w.store.texts v)) w else called_text p l site h v w k) e

module _ (p : Loaded) (l : Level) (site : Site) (w : World) (k : Next (List Value)) where
  -- the string of a text
  abbrev pub string_next : List ℕ → World → Run
  string_next t w = interned t w (and_then k (λ v w. k (Ok (v ∷ [])) w))

  module _ (args : List Value) where
    to_string_next : Value → Run
    to_string_next v = to_text p l site v w (and_then k string_next)

    pub to_string_bad : slice_get args 0 ≡ None → to_string p l site args w k ≡ fault_at p site.line (lua.BadArgument 1 (codes "tostring")) w k
    unfolding to_string_next
    to_string_bad e = is_bad p l site (codes "tostring") 1 w k to_string_next (slice_get args 0) e

    pub to_string_goes : (v : Value) → slice_get args 0 ≡ Some v → to_string p l site args w k ≡ to_text p l site v w (and_then k string_next)
    unfolding to_string_next
    to_string_goes v e = is_there p l site (codes "tostring") 1 w k to_string_next (slice_get args 0) v e

-- ---- print

pub at_place : (s : List Value) (i : ℕ) (x : Value) → slice_get s i ≡ Some x → drop i s ≡ x ∷ drop (i + 1) s
at_place s i x e =
    let h : i < length s = slice_get_within s i x e in
    let is : x ≡ get_or s i x = ap (λ o. unwrap_or o x) (sym e) ∙ unwrap_or-slice_get s i x in
    let d : drop i s ≡ get_or s i x ∷ drop (i + 1) s = rw (add-one, drop-cons s i x) in
    d ∙ ap (λ y. y ∷ drop (i + 1) s) (sym is)

pub at_first : (s : List Value) (at : ℕ) (x : Value) → slice_get (drop at s) 0 ≡ Some x → drop at s ≡ x ∷ drop (at + 1) s
at_first s at x e = at_place (drop at s) 0 x e ∙ ap (λ t. x ∷ t) (sym (drop_past at s))

none_there : {A : Type 0} (s : List A) → slice_get s 0 ≡ None → s ≡ []
none_there [] e = refl
none_there (x ∷ s) e = cc

module _ (p : Loaded) (l : Level) (site : Site) (k : Next (List Value)) where
  -- what follows the text of one argument
  abbrev pub print_next : List ℕ → List Value → List ℕ → World → Run
  print_next line vs t w = print_rest p l site (line ++ codes "\t" ++ t) vs w k

  pub print_at : (line : List ℕ) (s : List Value) (i : ℕ) (x : Value) (w : World) → slice_get s i ≡ Some x → print_rest p l site line (drop i s) w k ≡ to_text p l site x w (and_then k (print_next line (drop (i + 1) s)))
  print_at line s i x w e = ap (λ vs. print_rest p l site line vs w k) (at_place s i x e)

  pub print_end : (line : List ℕ) (s : List Value) (i : ℕ) (w : World) → length s ≤ i → print_rest p l site line (drop i s) w k ≡ print_rest p l site line [] w k
  print_end line s i w h = ap (λ vs. print_rest p l site line vs w k) (drop_all i s h)

  abbrev pub print_first_next : List Value → List ℕ → World → Run
  print_first_next vs t w = print_rest p l site t vs w k

  pub print_first : (s : List Value) (at : ℕ) (x : Value) (w : World) → slice_get (drop at s) 0 ≡ Some x → print p l site (drop at s) w k ≡ to_text p l site x w (and_then k (print_first_next (drop (at + 1) s)))
  print_first s at x w e = ap (λ vs. print p l site vs w k) (at_first s at x e)

  pub print_none : (s : List Value) (w : World) → slice_get s 0 ≡ None → print p l site s w k ≡ asked p l site (ask.Print (codes "\n")) w k
  print_none s w e = ap (λ vs. print p l site vs w k) (none_there s e)
