use Rattle.std.proofs.Common.{◌≡◌, ◌∙◌, ap, [], ◌∷◌}
use Rattle.lua_meaning.specs.Levels.{level}
use Rattle.lua_meaning.specs.Statements.{assigned}
use Rattle.lua_machine.specs.Does.{frame, world}
use Rattle.lua_commands.proofs.Follow.{locals_by}
use Rattle.lua_commands.proofs.Singles.{only, assigned_single}
use Rattle.lua_commands.proofs.assignments.assign.Goals as goal

pub returns-then-es-eq1 : goal.returns-then-es-eq1
returns-then-es-eq1 g c =
    let a = c.args in
    let l = level a.p.now a.b.now.level in
    let m = a.m.now in
    let f = frame a.f.now m.stack in
    let t = c.index-ts-0.result in
    let e = c.index-es-0.result in
    let ts : a.ts.now ≡ t ∷ [] = only a.ts.now t c.if-ts-eq1.true c.index-ts-0.is in
    let es : a.es.now ≡ e ∷ [] = only a.es.now e c.if-es-eq1.true c.index-es-0.is in
    locals_by a.f.now m c.assign_one.new.m _ _ _ (λ k. ap (λ x. assigned a.p.now l x a.es.now f (world m) k) ts ∙ ap (λ x. assigned a.p.now l (t ∷ []) x f (world m) k) es ∙ assigned_single a.p.now l f (world m) t e k) c.assign_one.ensures
