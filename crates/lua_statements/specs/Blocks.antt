-- How the statements of a block end, before a goto of the block itself is followed.
use Rattle.std.specs.Prelude.{ℕ, List, Result, Ok, Err, length}
use Rattle.lua_program.specs.declared.stat.RStat.{RStat}
use Rattle.lanes_lib.specs.declared.ask.Ask.{Ask}
use Rattle.lanes_lib.specs.declared.ask.Answer.{Answer}
use Rattle.lua_meaning.specs.declared.fault.Fault.{Fault}
use Rattle.lua_meaning.specs.Run.{Run, World, Next, Leads, reaches}
use Rattle.lua_meaning.specs.Level.{Level, Frame, Locals, Flow, Goes}
use Rattle.lua_meaning.specs.Statements.{after, sequence, jumped}
use Rattle.lua_machine.specs.declared.machine.Machine.{Machine}
use Rattle.lua_machine.specs.declared.machine.Window.{Window}
use Rattle.lua_machine.specs.declared.machine.FlowTag.{FlowTag}
use Rattle.lua_machine.specs.Does.{point, world, frame, flow, StackFlow}

-- what follows a block's statements: a goto of this block jumps, another leaves one block fewer
abbrev pub left_by : Next Flow → (ℕ → Locals → World → Run) → Next Flow
left_by k jump o w = after k (λ locals w. k (Ok (Goes locals)) w) jump o w

-- the same, a goto of this block going on after its label
abbrev pub landed : Level → List RStat → Frame → Result Flow Fault → World → Next Flow → Run
landed l ss f o w k = left_by k (λ n locals w. jumped l w.left ss f k n locals w) o w

module _ {H : Type 0} (asked : H → Ask → Answer → H → Type 0) where
  -- statements one after another ended, whatever is done with a goto of their block
  pub record SequenceOf (l : Level) (ss : List RStat) (m : Machine H) (f : Window) (r : FlowTag)
      (m1 : Machine H) : Type 0 where
    pub leads : (jump : ℕ → Locals → World → Run) (k : Next Flow) →
        Leads asked (point m) (sequence l jump ss (frame f m.stack) (world m) k) (point m1)
        (reaches (flow r (length m.stack.values) f m1) (left_by k jump) (world m1))
    pub stack : StackFlow r f m.stack m1.stack
