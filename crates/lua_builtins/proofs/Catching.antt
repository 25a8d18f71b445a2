-- Calls that catch errors; faults that are no errors pass them.
use Rattle.std.proofs.Common.{◌≡◌, ◌∷◌, [], List, Ok, Err, Some, None, refl, ◌∙◌, drop, codes}
use Rattle.std.specs.Prelude.{slice_get}
use Rattle.object_store.specs.declared.value.Value.TheVariants as V
use Rattle.object_store.specs.declared.fault.LuaFault.TheVariants as lua
use Rattle.base_lib.specs.Base.{or_bad}
use Rattle.lua_meaning.specs.Faults.{fault_at}
use Rattle.lua_builtins.specs.Parts.{protected, handling}
use Rattle.lua_builtins.proofs.Readings.{is_there, is_bad}
use Rattle.object_store.specs.declared.value.Value.{Value}
use Rattle.lua_meaning.specs.declared.fault.Fault.{Fault}
use Rattle.lua_meaning.specs.declared.fault.Fault.TheVariants as F
use Rattle.lua_meaning.specs.declared.fault.Site.{Site}
use Rattle.lua_meaning.specs.Run.{Run, World, Next, reaches}
use Rattle.lua_meaning.specs.Level.{Loaded, Level}
use Rattle.lua_meaning.specs.Library.{reading, inner, pcall, xpcall, caught, handled_by}
use Rattle.lua_machine.specs.declared.machine.Machine.{Machine}
use Rattle.lua_machine.specs.declared.machine.Got.{Got}
use Rattle.lua_machine.specs.declared.machine.Got.TheVariants as G
use Rattle.lua_machine.specs.Does.{many}
use Rattle.lua_builtins.specs.Apart.{got_apart}

module _ (p : Loaded) (l : Level) (site : Site) (w : World) (k : Next (List Value)) (args : List Value) where
  -- an error of a call
  abbrev pub pcall_handle : Value → World → Run
  pcall_handle v w = k (Ok (V.False ∷ v ∷ [])) w

  pcall_next : Value → Run
  pcall_next g = l.call g (drop 1 args) (inner p l site) w (caught p l site pcall_handle k)

  pub pcall_bad : slice_get args 0 ≡ None → pcall p l site args w k ≡ fault_at p site.line (lua.BadArgument 1 (codes "pcall")) w k
  unfolding pcall_next
  pcall_bad e = is_bad p l site (codes "pcall") 1 w k pcall_next (slice_get args 0) e

  pub pcall_goes : (g : Value) → slice_get args 0 ≡ Some g → pcall p l site args w k ≡ l.call g (drop 1 args) (inner p l site) w (caught p l site pcall_handle k)
  unfolding pcall_next
  pcall_goes g e = is_there p l site (codes "pcall") 1 w k pcall_next (slice_get args 0) g e

  xpcall_last : Value → Value → Run
  xpcall_last g h = protected p l site g h (drop 2 args) w k

  xpcall_next : Value → Run
  xpcall_next g = reading p l site (or_bad (codes "xpcall") 2 (slice_get args 1)) w k (xpcall_last g)

  pub xpcall_bad : slice_get args 0 ≡ None → xpcall p l site args w k ≡ fault_at p site.line (lua.BadArgument 1 (codes "xpcall")) w k
  unfolding xpcall_next xpcall_last
  xpcall_bad e = is_bad p l site (codes "xpcall") 1 w k xpcall_next (slice_get args 0) e

  pub xpcall_bad_handler : (g : Value) → slice_get args 0 ≡ Some g → slice_get args 1 ≡ None → xpcall p l site args w k ≡ fault_at p site.line (lua.BadArgument 2 (codes "xpcall")) w k
  unfolding xpcall_next xpcall_last
  xpcall_bad_handler g e f = is_there p l site (codes "xpcall") 1 w k xpcall_next (slice_get args 0) g e ∙ is_bad p l site (codes "xpcall") 2 w k (xpcall_last g) (slice_get args 1) f

  pub xpcall_goes : (g h : Value) → slice_get args 0 ≡ Some g → slice_get args 1 ≡ Some h → xpcall p l site args w k ≡ protected p l site g h (drop 2 args) w k
  unfolding xpcall_next xpcall_last
  xpcall_goes g h e f = is_there p l site (codes "xpcall") 1 w k xpcall_next (slice_get args 0) g e ∙ is_there p l site (codes "xpcall") 2 w k (xpcall_last g) (slice_get args 1) h f

module _ (p : Loaded) (l : Level) (site : Site) (k : Next (List Value)) (w : World) where
  pub caught_passes : (handle : Value → World → Run) (f : Fault) → ((v : Value) → f ≡ F.Raised v → ⊥) → reaches (Err f) (caught p l site handle k) w ≡ reaches (Err f) k w
  caught_passes handle (F.Raised v) h = absurd (h v refl)
  caught_passes handle F.Spent h = refl
  caught_passes handle F.Cancelled h = refl
  caught_passes handle F.WriteFault h = refl
  caught_passes handle F.Broken h = refl
  caught_passes handle F.Memory h = refl

  pub handled_passes : (f : Fault) → ((v : Value) → f ≡ F.Raised v → ⊥) → reaches (Err f) (handled_by p l site k) w ≡ reaches (Err f) k w
  handled_passes (F.Raised v) h = absurd (h v refl)
  handled_passes F.Spent h = refl
  handled_passes F.Cancelled h = refl
  handled_passes F.WriteFault h = refl
  handled_passes F.Broken h = refl
  handled_passes F.Memory h = refl

-- what a call gave on a stack of its own
pub many_apart : {H : Type 0} (r : Got) (m m1 : Machine H) → m1.value ≡ m.value → m1.fault ≡ m.fault → many r 0 m ≡ got_apart r m.stack m1
many_apart G.One m m1 v f = rw v refl
many_apart G.Many m m1 v f = refl
many_apart G.Failed m m1 v f = rw f refl

-- the handler of an error
abbrev pub handle_next : Loaded → Level → Site → Value → Next (List Value) → Value → World → Run
handle_next p l site h k v w = handling p l site h v w k
