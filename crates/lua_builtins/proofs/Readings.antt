-- What is read of the arguments.
use Rattle.std.proofs.Common.{◌≡◌, ℕ, List, Option, Some, None, ap}
use Rattle.object_store.specs.declared.fault.LuaFault.TheVariants as lua
use Rattle.base_lib.specs.Base.{or_bad}
use Rattle.lua_meaning.specs.declared.fault.Site.{Site}
use Rattle.lua_meaning.specs.Run.{World, Run, Next}
use Rattle.lua_meaning.specs.Level.{Loaded, Level}
use Rattle.lua_meaning.specs.Faults.{fault_at}
use Rattle.lua_meaning.specs.Library.{reading}

module _ {A B : Type 0} (p : Loaded) (l : Level) (site : Site) (name : List ℕ) (n : ℕ) (w : World) (k : Next B) (go : A → Run) where
  pub is_there : (o : Option A) (v : A) → o ≡ Some v → reading p l site (or_bad name n o) w k go ≡ go v
  is_there o v e = ap (λ o. reading p l site (or_bad name n o) w k go) e

  pub is_bad : (o : Option A) → o ≡ None → reading p l site (or_bad name n o) w k go ≡ fault_at p site.line (lua.BadArgument n name) w k
  is_bad o e = ap (λ o. reading p l site (or_bad name n o) w k go) e
