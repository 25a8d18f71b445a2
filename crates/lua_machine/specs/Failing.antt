-- How a part of the machine fails.
use Rattle.std.specs.Prelude.{◌≡◌, ◌⊎◌, ◌++◌, ℕ, List}
use Rattle.lanes_arena.specs.Names.{named, number_of}
use Rattle.object_store.specs.declared.value.Value.{Value}
use Rattle.object_store.specs.declared.value.Value.TheVariants as V
use Rattle.object_store.specs.declared.fault.LuaFault.{LuaFault}
use Rattle.object_store.specs.declared.fault.LuaFault.TheVariants as lua
use Rattle.object_store.specs.FaultText.{fault_text}
use Rattle.lua_meaning.specs.declared.fault.Fault.{Fault}
use Rattle.lua_meaning.specs.declared.fault.Fault.TheVariants as F
use Rattle.lua_meaning.specs.Run.{Store}
use Rattle.lua_meaning.specs.Level.{Loaded}
use Rattle.lua_meaning.specs.Faults.{position}
use Rattle.lua_machine.specs.declared.machine.Machine.{Machine}
use Rattle.lua_machine.specs.Does.{store_of}

-- with this fault, and this memory; the steps left, the host and the stack stay
pub record Fails {H : Type 0} (fault : Fault) (store : Store) (m m1 : Machine H) : Type 0 where
  pub says : m1.fault ≡ fault
  pub holds : store_of m1.state ≡ store
  pub left : m1.left ≡ m.left
  pub host : m1.host ≡ m.host
  pub stack : m1.stack ≡ m.stack

abbrev pub Lost : {H : Type 0} → Machine H → Machine H → Type 0
Lost m m1 = Fails F.Memory (store_of m.state) m m1

abbrev pub string_of : Store → List ℕ → Value
string_of store text = V.Str (record { number = number_of store.texts text })

abbrev pub with_text : Store → List ℕ → Store
with_text store text = record store { texts = named store.texts text }

-- the string of these bytes was raised, or memory ran out
abbrev pub Failing : {H : Type 0} → List ℕ → Machine H → Machine H → Type 0
Failing text m m1 =
    Fails (F.Raised (string_of (store_of m.state) text)) (with_text (store_of m.state) text) m m1 ⊎
    Lost m m1

-- a fault of an operator or a library function was raised at this line
abbrev pub FailingAt : {H : Type 0} → Loaded → ℕ → LuaFault → Machine H → Machine H → Type 0
FailingAt p line lua.Memory m m1 = Lost m m1
FailingAt p line fault m m1 = Failing (position p line ++ fault_text fault) m m1
