use Rattle.lua_ops.specs.Metamethods.{concat_step}
use Rattle.lua_meaning.specs.Levels.{level}
use Rattle.lua_meaning.specs.Run.{lost, reaches}
use Rattle.lua_machine.specs.Does.{point, world, one}
use Rattle.lua_machine.proofs.Places.{no_true}
use Rattle.lua_operands.proofs.Joins.{joined, the_first}
use Rattle.std.proofs.Common.{refl}
use Rattle.lua_operands.proofs.joining.concat.Goals as goal

pub returns-then-is_lost : goal.returns-then-is_lost
returns-then-is_lost g c =
    let memory = c.if-is_lost.ensures.0 refl in
    let same = rw memory at c.concat-step.ensures.err in
    record { leads = λ k. rw (c.lose.ensures, same) lost; stack = tt }

pub returns : goal.returns
returns g c =
    let a = c.args in
    let m = a.m.now in
    let e = c.concat-step.ensures in
    let m1 = c.finish.new.m in
    let r = c.finish.result in
    let step = the_first e.answer (λ x. no_true (c.if-is_lost.ensures.1 x)) in
    record {
      leads = λ k. joined a.p.now (level a.p.now a.b.now.level) a.line a.from m.host m.left m.state c.concat-step.new.state c.concat-step.result k (point m1) (reaches (one r m1) k (world m1)) (concat_step m.state.texts m.state.heap a.x m.value) step e.texts e.heap e.err (c.finish.ensures.leads k);
      stack = c.finish.ensures.stack;
    }
