use Rattle.std.proofs.Common.{arith, refl, ap, ◌∙◌}
use Rattle.lua_machine.proofs.LeafLemmas.{leaf_read}
use Rattle.lua_machine.proofs.below.Below.leaf.Goals as goal

pub returns-then-take_leaf-clause-read : goal.returns-then-take_leaf-clause-read
returns-then-take_leaf-clause-read g c = λ yes.
    let a = c.args in
    leaf_read g.H.Host.asked a.p.now a.self.now.level a.m.now c.take_leaf.new.self _ a.f.now a.e.now (omega arith) (omega arith) (c.take_leaf.ensures.taken c.if-take_leaf.true) c.take_leaf.ensures.rest refl
