use Rattle.std.proofs.Common.{ap, drop, [], if◌then◌else◌}
use Rattle.lua_meaning.specs.Levels.{level}
use Rattle.lua_machine.specs.Does.{world}
use Rattle.lua_machine.proofs.Leads.{from}
use Rattle.lua_calls.specs.Bodies.{run_in, frame_with}
use Rattle.lua_calls.proofs.bodies.run_body.Goals as goal

pub returns-then-proto : goal.returns-then-proto
returns-then-proto g c =
    let a = c.args in
    let m = a.m.now in
    let proto = a.proto.now in
    let args = drop a.at m.stack.values in
    record {
      leads = λ k. from (ap (λ b. run_in a.p.now (level a.p.now a.b.now.level) a.line proto (frame_with proto a.id.number a.line (if b then drop proto.params args else []) args) (world m) k) c.if-proto.true) (c.run_vararg.ensures.leads k);
      stack = c.run_vararg.ensures.stack;
    }

pub returns-else-proto : goal.returns-else-proto
returns-else-proto g c =
    let a = c.args in
    let m = a.m.now in
    let proto = a.proto.now in
    let args = drop a.at m.stack.values in
    record {
      leads = λ k. from (ap (λ b. run_in a.p.now (level a.p.now a.b.now.level) a.line proto (frame_with proto a.id.number a.line (if b then drop proto.params args else []) args) (world m) k) c.if-proto.false) (c.run_fixed.ensures.leads k);
      stack = c.run_fixed.ensures.stack;
    }
