use Rattle.std.proofs.Common.{◌≡◌, ◌-◌, Some, Ok}
use Rattle.lua_meaning.specs.Run.{Leads, Next}
use Rattle.lua_meaning.specs.Level.{Flow, Jumps}
use Rattle.lua_meaning.specs.Levels.{level}
use Rattle.lua_meaning.specs.Statements.{jumped}
use Rattle.lua_machine.specs.Does.{Around, frame, locals, world, point}
use Rattle.lua_statements.specs.Blocks.{landed}
use Rattle.lua_statements.proofs.blocks.after_jump.Given as goal

abbrev pub invariant-loop-turn : goal.invariant-loop-turn
invariant-loop-turn g l = record {
  goes : (k : Next Flow) → Leads g.H.Host.asked (point l.fn.m) (landed (level l.p l.b.level) l.ss (frame l.f l.fn.m.stack) (Ok (Jumps l.fn.m.leaves l.fn.m.statement (locals l.f l.fn.m.stack))) (world l.fn.m) k) (point l.m) (Some (jumped (level l.p l.b.level) (l.fn.m.left - l.turn) l.ss (frame l.f l.fn.m.stack) k l.m.statement (locals l.f l.m.stack) (world l.m)));
  around : Around l.f l.fn.m.stack l.m.stack;
}
