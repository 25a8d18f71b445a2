-- What the run of a script's program does, and how it ends.
use Rattle.std.specs.Prelude.{◌≡◌, ◌⊎◌, ◌++◌, ◌-◌, ◌^◌, [], ℕ, List, Bool, true, false, Result, Ok, Err, Option, codes}
use Rattle.lua_program.specs.declared.program.Program.{Program}
use Rattle.object_store.specs.declared.value.Value.{Value}
use Rattle.object_store.specs.declared.value.Value.TheVariants as V
use Rattle.object_store.specs.Kind.{name_of_kind, kind_of}
use Rattle.lua_ops.specs.Metamethods.{Texts}
use Rattle.linda_core.specs.declared.content.Content.{Content}
use Rattle.base_lib.specs.Shown.{shown}
use Rattle.lua_meaning.specs.declared.fault.Fault.{Fault}
use Rattle.lua_meaning.specs.declared.fault.Fault.TheVariants as F
use Rattle.lua_meaning.specs.Run.{Store, World}
use Rattle.lua_meaning.specs.Whole.{meant, Ran}
use Rattle.plain_host.specs.Plain.{Answers}
use Rattle.script_run.specs.declared.script.ProgramEnd.{ProgramEnd}
use Rattle.script_run.specs.declared.script.ProgramEnd.TheVariants as E
use Rattle.script_run.specs.Opening.{IsOpening}

-- the line that tells of an error that nothing caught
abbrev pub raised_line : Texts → Value → List ℕ
raised_line texts (V.Int n) = codes "lanes: " ++ shown texts (V.Int n) ++ codes "\n"
raised_line texts (V.Str id) = codes "lanes: " ++ shown texts (V.Str id) ++ codes "\n"
raised_line texts v =
    codes "lanes: error object is a " ++ name_of_kind (kind_of v) ++ codes " value\n"

-- how the program ends, by the outcome of its main body, where no write failed
abbrev pub ending : Texts → Result (List Value) Fault → ProgramEnd
ending texts (Ok vs) = E.Returned
ending texts (Err (F.Raised v)) = E.Raised (raised_line texts v)
ending texts (Err F.Spent) = E.Spent
ending texts (Err fault) = E.Memory

-- a write that failed ends the program
abbrev pub ends : Bool → Texts → Result (List Value) Fault → ProgramEnd
ends true texts result = E.WriteFault
ends false texts result = ending texts result

-- a lane has so many steps
abbrev pub steps : ℕ
steps = 2 ^ 63 - 1

abbrev pub function : ℕ → Value
function number = V.Func (record { number = number; kind = record {} })

-- The program ran: with the answers of this host, what the program means is what the host was
-- asked, and this outcome. Want of memory may end it instead of an outcome that was reached.
pub record RunsProgram (program : Program) (taken_old taken_new : Option (List ℕ))
    (faults_old faults_new : ℕ) (end : ProgramEnd) : Type 0 where
  pub opening : Store
  pub main : ℕ
  pub opens : IsOpening opening main
  pub failed : Bool
  pub lindas : List Content
  pub result : Result (List Value) Fault
  pub world : World
  pub ran : Ran Answers
      (record { taken = taken_old; faults = faults_old; failed = false; lindas = [] })
      (record { taken = taken_new; faults = faults_new; failed = failed; lindas = lindas })
      opening (meant program opening (function main) [] steps) result world
  pub ended : (end ≡ ends failed world.store.texts result)
      ⊎ ((failed ≡ false) × (end ≡ E.Memory))
