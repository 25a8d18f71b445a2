-- A whole run: how it ended, by the meaning of its program with the answers of its host.
use Rattle.std.specs.Prelude.{◌≡◌, ◌-◌, ℕ, List, Result, Ok, Err, Option, Some, None}
use Rattle.lua_program.specs.declared.program.Program.{Program}
use Rattle.object_store.specs.declared.value.Value.{Value}
use Rattle.object_store.specs.Heap.{Shown}
use Rattle.lanes_lib.specs.declared.ask.Ask.{Ask}
use Rattle.lanes_lib.specs.declared.ask.Answer.{Answer}
use Rattle.lua_meaning.specs.declared.fault.Fault.{Fault}
use Rattle.lua_meaning.specs.declared.fault.Fault.TheVariants as F
use Rattle.lua_meaning.specs.Run.{Run, Store}
use Rattle.lua_meaning.specs.Whole.{meant, Ran}
use Rattle.lua_machine.specs.Does.{store_of}
use Rattle.evaluator.specs.declared.outcome.End.{End}
use Rattle.evaluator.specs.declared.outcome.End.TheVariants as E
use Rattle.evaluator.specs.declared.outcome.Outcome.{Outcome}

-- the end of a run with a budget
abbrev pub end_of : ℕ → Result (List Value) Fault → End
end_of budget (Ok vs) = E.Returned vs
end_of budget (Err (F.Raised v)) = E.Raised v
end_of budget (Err F.Spent) = E.BudgetSpent budget
end_of budget (Err F.Cancelled) = E.Cancelled
end_of budget (Err F.WriteFault) = E.WriteFault
end_of budget (Err F.Broken) = E.Memory
end_of budget (Err F.Memory) = E.Memory

-- A call of a function in a memory came to this outcome: with the answers that the host gave, what
-- the program means is what the host was asked, this end, this memory and so many steps.
pub record RunOf {R : Type 0} (asked : R → Ask → Answer → R → Type 0) (program : Program)
    (before : Store) (function : Value) (arguments : List Value) (host : R) (budget : ℕ)
    (outcome : Outcome R) : Type 0 where
  pub result : Result (List Value) Fault
  pub left : ℕ
  pub end : outcome.end ≡ end_of budget result
  pub steps : outcome.steps ≡ budget - left
  pub ran : Ran asked host outcome.host before (meant program before function arguments budget)
      result (record { store = store_of outcome.state; left = left })

-- where the interning of the texts leads: on, unless memory ran out
abbrev pub goes_on : {A E : Type 0} → Result A E → Run → Option Run
goes_on (Ok a) next = Some next
goes_on (Err e) next = None
