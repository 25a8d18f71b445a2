-- The run of a function's body in its frame.
use Rattle.std.specs.Prelude.{ℕ, List, [], take}
use Rattle.lua_program.specs.declared.program.Proto.{Proto}
use Rattle.object_store.specs.declared.value.Value.{Value}
use Rattle.lua_meaning.specs.Run.{Run, World, Next, and_then}
use Rattle.lua_meaning.specs.Level.{Loaded, Level, Frame}
use Rattle.lua_meaning.specs.Names.{filled}
use Rattle.lua_meaning.specs.Statements.{block, with_locals}
use Rattle.lua_meaning.specs.Calls.{param_cells, returned}
use Rattle.lua_machine.specs.Piled.{Piled, with_cells}
use Rattle.lua_machine.specs.declared.machine.Window.{Window}

-- the cells of the parameters, then the body's statements; the fault of a cell too many is of this
-- line
abbrev pub run_in : Loaded → Level → ℕ → Proto → Frame → World → Next (List Value) → Run
run_in p l line proto f w k =
    param_cells p line 0 proto.cells f w (and_then k (λ locals w.
    block l proto.body (with_locals f locals) w (returned k)))

-- the frame of a call with these arguments and these values of `...`
abbrev pub frame_with : Proto → ℕ → ℕ → List Value → List Value → Frame
frame_with proto me from dots args = record {
  me = me;
  from = from;
  dots = dots;
  locals = record { slots = filled proto.slots (take proto.params args); cells = [] };
}

-- the stack without the cells of a window
abbrev pub without_cells : Window → Piled → Piled
without_cells f s = with_cells s (take f.cells s.cells)
