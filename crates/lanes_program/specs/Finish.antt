-- What a run of a script did, by the end of its program.
use Rattle.std.specs.Prelude.{◌≡◌, ◌⊎◌, ℕ, List}
use Rattle.std.specs.declared.option.Option.{Option}
use Rattle.lua_program.specs.declared.program.Program.{Program}
use Rattle.lua_scope.specs.Stands.{Stands}
use Rattle.script_run.specs.declared.script.ProgramEnd.{ProgramEnd}
use Rattle.script_run.specs.declared.script.ProgramEnd.TheVariants as program
use Rattle.script_run.specs.Running.{RunsProgram}
use Rattle.plain_host.specs.Writing.{Told}
use Rattle.lanes_program.specs.Reading.{GaveScript}
use Rattle.lanes_program.specs.Refusals.{IsParsed}
use Rattle.lanes_program.specs.Status.{program_line, program_status}

-- the program of a script of this name: the script is parsed, and the program stands for its tree
pub record IsProgramOf (script name : List ℕ) (program : Program) : Type 0 where
  pub parsed : IsParsed script
  pub stands : Stands program name parsed.tree

-- the input gave a script, and its program ran to this end
pub record RunsScript (left_old left_new : Option (List ℕ)) (name : List ℕ)
    (taken_old taken_new : Option (List ℕ)) (faults_old faults_new : ℕ) (end : ProgramEnd) :
    Type 0 where
  pub script : List ℕ
  pub gave : GaveScript left_old left_new script
  pub program : Program
  pub is : IsProgramOf script name program
  pub ran : RunsProgram program taken_old taken_new faults_old faults_new end

-- the program of the script ended so that it has this status, and the errors were told its line
pub record Finishes (left_old left_new : Option (List ℕ)) (name : List ℕ)
    (taken_old taken_new : Option (List ℕ)) (faults_old faults_new : ℕ)
    (told_old told_new : Option (List ℕ)) (untold_old untold_new : ℕ) (status : ℕ) : Type 0 where
  pub end : ProgramEnd
  pub is : status ≡ program_status end
  pub ran : RunsScript left_old left_new name taken_old taken_new faults_old faults_new end
  pub told : Told untold_old untold_new told_old told_new (program_line end)
