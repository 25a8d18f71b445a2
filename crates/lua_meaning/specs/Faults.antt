-- Errors that operators and library functions raise: the text of a fault, after the script's name
-- and the line of the expression (the manual leaves messages open).
use Rattle.std.specs.Prelude.{ℕ, zero, suc, List, ◌++◌, ◌∷◌, [], Result, Ok, Err, codes, pos}
use Rattle.std.specs.Fmt.{signed_decimal}
use Rattle.object_store.specs.declared.value.Value.{Value}
use Rattle.object_store.specs.declared.fault.LuaFault.{LuaFault}
use Rattle.object_store.specs.declared.fault.LuaFault.TheVariants as lua
use Rattle.object_store.specs.FaultText.{fault_text}
use Rattle.lua_meaning.specs.declared.fault.Fault.{Fault}
use Rattle.lua_meaning.specs.declared.fault.Fault.TheVariants as F
use Rattle.lua_meaning.specs.Run.{Run, World, Next, interned, and_then}
use Rattle.lua_meaning.specs.Level.{Loaded}

-- `NAME:LINE: `, and nothing for the line 0
abbrev pub position : Loaded → ℕ → List ℕ
position p zero = []
position p (suc n) = p.program.name ++ codes ":" ++ signed_decimal (pos (suc n)) ++ codes ": "

-- raises the string of these bytes
abbrev pub raise : {A : Type 0} → List ℕ → World → Next A → Run
raise text w k = interned text w (and_then k (λ v w. k (Err (F.Raised v)) w))

abbrev pub raise_at : {A : Type 0} → Loaded → ℕ → List ℕ → World → Next A → Run
raise_at p line text w k = raise (position p line ++ text) w k

-- a fault of the expression on this line; want of memory is no error
abbrev pub fault_at : {A : Type 0} → Loaded → ℕ → LuaFault → World → Next A → Run
fault_at p line lua.Memory w k = k (Err F.Memory) w
fault_at p line fault w k = raise_at p line (fault_text fault) w k

-- what an operation gave, or its fault on this line
abbrev pub or_fault : {A B : Type 0} → Loaded → ℕ → Result A LuaFault → World → Next B → (A → Run) →
    Run
or_fault p line (Ok a) w k go = go a
or_fault p line (Err fault) w k go = fault_at p line fault w k
