use Rattle.std.proofs.Common.{◌≡◌, ◌∙◌, ap, [], ◌∷◌}
use Rattle.lua_meaning.specs.Levels.{level}
use Rattle.lua_meaning.specs.Statements.{local}
use Rattle.lua_machine.specs.Does.{frame, world}
use Rattle.lua_commands.specs.Assigned.{declared_one}
use Rattle.lua_commands.proofs.Follow.{locals_by}
use Rattle.lua_commands.proofs.Singles.{only, local_single}
use Rattle.lua_commands.proofs.declarations.local.Goals as goal

pub returns-then-es-eq1 : goal.returns-then-es-eq1
returns-then-es-eq1 g c =
    let a = c.args in
    let l = level a.p.now a.b.now.level in
    let m = a.m.now in
    let f = frame a.f.now m.stack in
    let x = c.index-ls-0.result in
    let e = c.index-es-0.result in
    let ls : a.ls.now ≡ x ∷ [] = only a.ls.now x c.if-ls-eq1.true c.index-ls-0.is in
    let es : a.es.now ≡ e ∷ [] = only a.es.now e c.if-es-eq1.true c.index-es-0.is in
    locals_by a.f.now m c.local_one.new.m _ _ _ (λ k. ap (λ x. local a.p.now l x a.es.now f (world m) k) ls ∙ ap (λ y. local a.p.now l (x ∷ []) y f (world m) k) es ∙ local_single a.p.now l f (world m) x.0 e x.1 k ∙ ap (λ y. declared_one a.p.now l f y.0 e (world m) k) c.index-ls-0.is) c.local_one.ensures
