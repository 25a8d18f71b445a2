use Rattle.std.proofs.Common.{◌≡◌, ◌∙◌, ap, [], ◌∷◌}
use Rattle.lua_meaning.specs.Levels.{level}
use Rattle.lua_meaning.specs.Statements as spec
use Rattle.lua_machine.specs.Does.{frame, world}
use Rattle.lua_commands.proofs.Follow.{flow_named}
use Rattle.lua_commands.proofs.Singles.{only, return_single}
use Rattle.lua_commands.proofs.returns.give_back.Goals as goal

pub returns-then-es-eq1 : goal.returns-then-es-eq1
returns-then-es-eq1 g c =
    let a = c.args in
    let l = level a.p.now a.b.now.level in
    let m = a.m.now in
    let f = frame a.f.now m.stack in
    let e = c.index-es-0.result in
    let es : a.es.now ≡ e ∷ [] = only a.es.now e c.if-es-eq1.true c.index-es-0.is in
    flow_named a.f.now m c.give_one.new.m _ _ _ (λ k. ap (λ x. spec.return a.p.now l x f (world m) k) es ∙ return_single a.p.now l f (world m) e k) c.give_one.ensures
