-- The status of each way to end, and the line that goes with it.
use Rattle.std.specs.Prelude.{◌≡◌, ◌⊎◌, ℕ, List, [], ◌∷◌, codes, ◌==◌, if◌then◌else◌}
use Rattle.script_run.specs.declared.script.ProgramEnd.{ProgramEnd}
use Rattle.script_run.specs.declared.script.ProgramEnd.TheVariants as program
use Rattle.lanes_program.specs.declared.run.End.{End}
use Rattle.lanes_program.specs.declared.run.End.TheVariants.{Ran, Refused, Memory, ReadFault}
use Rattle.lanes_program.specs.Refusals.{script_name}

abbrev pub program_status : ProgramEnd → ℕ
program_status program.Returned = 0
program_status (program.Raised line) = 1
program_status program.Memory = 4
program_status program.WriteFault = 6
program_status program.Spent = 7

abbrev pub status_of : End → ℕ
status_of (Ran end) = program_status end
status_of (Refused refusal) = 3
status_of Memory = 4
status_of ReadFault = 5

-- the ends that come before a program runs
abbrev pub IsEarlyEnd : End → Type 0
IsEarlyEnd (Refused refusal) = Unit {0}
IsEarlyEnd Memory = Unit {0}
IsEarlyEnd _ = ⊥

-- the program ran
abbrev pub IsRan : End → Type 0
IsRan (Ran end) = Unit {0}
IsRan _ = ⊥

-- the statuses that there are
abbrev pub IsStatus : ℕ → Type 0
IsStatus s =
    (s ≡ 0) ⊎ (s ≡ 1) ⊎ (s ≡ 2) ⊎ (s ≡ 3) ⊎ (s ≡ 4) ⊎ (s ≡ 5) ⊎ (s ≡ 6) ⊎ (s ≡ 7)

-- those of a program that came to an end of its own
abbrev pub IsOwnStatus : ℕ → Type 0
IsOwnStatus s = (s ≡ 0) ⊎ (s ≡ 1) ⊎ (s ≡ 6) ⊎ (s ≡ 7)

-- the name of the script of these words
abbrev pub name_of : {S : Type 0} → (S → List ℕ) → List S → List ℕ
name_of bytes [] = []
name_of bytes (word ∷ words) = script_name (bytes word)

-- the line of a status that has one line for all its causes
abbrev pub status_line : ℕ → List ℕ
status_line status =
    if status == 2 then codes "lanes: bad arguments\n" else
    if status == 4 then codes "lanes: not enough memory\n" else
    if status == 5 then codes "lanes: read fault\n" else
    if status == 6 then codes "lanes: write fault\n" else
    if status == 7 then codes "lanes: step budget spent\n" else []

-- the line of a program's end
abbrev pub program_line : ProgramEnd → List ℕ
program_line (program.Raised line) = line
program_line end = status_line (program_status end)
