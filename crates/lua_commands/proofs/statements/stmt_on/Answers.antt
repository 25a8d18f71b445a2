use Rattle.std.proofs.Common.{ap, ◌∙◌}
use Rattle.lua_program.specs.declared.stat.RStat.{out-RStat}
use Rattle.lua_program.specs.declared.stat.RStat.TheOpen as O
use Rattle.lua_program.specs.declared.stat.RStat.TheVariants as S
use Rattle.lua_meaning.specs.Levels.{level}
use Rattle.lua_meaning.specs.Statements.{local, assigned, local_function}
use Rattle.lua_machine.specs.Does.{frame, world}
use Rattle.lua_commands.proofs.Forms.{by_form, by_locals, by_value, by_jump, by_going, by_break}
use Rattle.lua_commands.proofs.statements.stmt_on.Goals as goal

pub returns-in-Local : goal.returns-in-Local
returns-in-Local g c =
    let a = c.args in
    let l = level a.p.now a.b.now.level in
    let m = a.m.now in
    let f = frame a.f.now m.stack in
    let i = c.in-Local in
    by_form a.p.now l a.f.now m c.local.new.m a.s.now (O.Local i.ls i.es) (ap out-RStat i.is ∙ S.outs-Local i.ls i.es) _
    (by_locals a.f.now m c.local.new.m _ _ c.goes.ensures (local a.p.now l i.ls i.es f (world m)) (rw (c.as_slice.ensures, c.as_slice-in-Local.ensures) at c.local.ensures))

pub returns-in-Assign : goal.returns-in-Assign
returns-in-Assign g c =
    let a = c.args in
    let l = level a.p.now a.b.now.level in
    let m = a.m.now in
    let f = frame a.f.now m.stack in
    let i = c.in-Assign in
    by_form a.p.now l a.f.now m c.assign.new.m a.s.now (O.Assign i.ts i.es) (ap out-RStat i.is ∙ S.outs-Assign i.ts i.es) _
    (by_locals a.f.now m c.assign.new.m _ _ c.goes-in-Assign.ensures (assigned a.p.now l i.ts i.es f (world m)) (rw (c.as_slice-in-Assign.ensures, c.as_slice-in-Assign-2.ensures) at c.assign.ensures))

pub returns-in-Call : goal.returns-in-Call
returns-in-Call g c =
    let a = c.args in
    let l = level a.p.now a.b.now.level in
    let m = a.m.now in
    let f = frame a.f.now m.stack in
    let i = c.in-Call in
    by_form a.p.now l a.f.now m c.one.new.m a.s.now (O.Call i.e) (ap out-RStat i.is ∙ S.outs-Call i.e) _
    (by_value a.f.now m c.one.new.m _ c.requires.fits _ c.goes-in-Call.ensures (l.expr i.e f (world m)) c.one.ensures)

pub returns-in-Do : goal.returns-in-Do
returns-in-Do g c =
    let a = c.args in
    let l = level a.p.now a.b.now.level in
    let m = a.m.now in
    let i = c.in-Do in
    by_form a.p.now l a.f.now m c.block.new.m a.s.now (O.Do i.ss) (ap out-RStat i.is ∙ S.outs-Do i.ss) _
    (rw c.as_slice-in-Do.ensures at c.block.ensures)

pub returns-in-While : goal.returns-in-While
returns-in-While g c =
    let a = c.args in
    let l = level a.p.now a.b.now.level in
    let m = a.m.now in
    let i = c.in-While in
    by_form a.p.now l a.f.now m c.while_turns.new.m a.s.now (O.While i.e i.body) (ap out-RStat i.is ∙ S.outs-While i.e i.body) _
    (rw c.as_slice-in-While.ensures at c.while_turns.ensures)

pub returns-in-Repeat : goal.returns-in-Repeat
returns-in-Repeat g c =
    let a = c.args in
    let l = level a.p.now a.b.now.level in
    let m = a.m.now in
    let i = c.in-Repeat in
    by_form a.p.now l a.f.now m c.repeat_turns.new.m a.s.now (O.Repeat i.body i.e) (ap out-RStat i.is ∙ S.outs-Repeat i.body i.e) _
    (rw c.as_slice-in-Repeat.ensures at c.repeat_turns.ensures)

pub returns-in-If : goal.returns-in-If
returns-in-If g c =
    let a = c.args in
    let l = level a.p.now a.b.now.level in
    let m = a.m.now in
    let i = c.in-If in
    by_form a.p.now l a.f.now m c.branches.new.m a.s.now (O.If i.bs i.last) (ap out-RStat i.is ∙ S.outs-If i.bs i.last) _
    (rw c.as_slice-in-If.ensures at c.branches.ensures)

pub returns-in-ForNum : goal.returns-in-ForNum
returns-in-ForNum g c =
    let a = c.args in
    let l = level a.p.now a.b.now.level in
    let m = a.m.now in
    let i = c.in-ForNum in
    by_form a.p.now l a.f.now m c.numeric_for.new.m a.s.now (O.ForNum i.r i.start i.limit i.step i.body) (ap out-RStat i.is ∙ S.outs-ForNum i.r i.start i.limit i.step i.body) _
    (rw (c.get.ensures, c.get-in-ForNum.ensures, c.as_slice-in-ForNum.ensures) at c.numeric_for.ensures)

pub returns-in-ForIn : goal.returns-in-ForIn
returns-in-ForIn g c =
    let a = c.args in
    let l = level a.p.now a.b.now.level in
    let m = a.m.now in
    let i = c.in-ForIn in
    by_form a.p.now l a.f.now m c.generic_for.new.m a.s.now (O.ForIn i.rs i.es i.body) (ap out-RStat i.is ∙ S.outs-ForIn i.rs i.es i.body) _
    (rw (c.as_slice-in-ForIn.ensures, c.as_slice-in-ForIn-2.ensures, c.as_slice-in-ForIn-3.ensures) at c.generic_for.ensures)

pub returns-in-LocalFunction : goal.returns-in-LocalFunction
returns-in-LocalFunction g c =
    let a = c.args in
    let l = level a.p.now a.b.now.level in
    let m = a.m.now in
    let f = frame a.f.now m.stack in
    let i = c.in-LocalFunction in
    by_form a.p.now l a.f.now m c.local_function.new.m a.s.now (O.LocalFunction i.r i.n) (ap out-RStat i.is ∙ S.outs-LocalFunction i.r i.n) _
    (by_locals a.f.now m c.local_function.new.m _ _ c.goes-in-LocalFunction.ensures (local_function a.p.now l i.r i.n f (world m)) c.local_function.ensures)

pub returns-in-Return : goal.returns-in-Return
returns-in-Return g c =
    let a = c.args in
    let l = level a.p.now a.b.now.level in
    let m = a.m.now in
    let i = c.in-Return in
    by_form a.p.now l a.f.now m c.give_back.new.m a.s.now (O.Return i.es) (ap out-RStat i.is ∙ S.outs-Return i.es) _
    (rw c.as_slice-in-Return.ensures at c.give_back.ensures)

pub returns-in-Break : goal.returns-in-Break
returns-in-Break g c =
    let a = c.args in
    let l = level a.p.now a.b.now.level in
    let m = a.m.now in
    let i = c.in-Break in
    by_form a.p.now l a.f.now m m a.s.now (O.Break i.field-0) (ap out-RStat i.is ∙ S.outs-Break i.field-0) _
    (by_break a.f.now m c.requires.fits)

pub returns-in-Goto : goal.returns-in-Goto
returns-in-Goto g c =
    let a = c.args in
    let l = level a.p.now a.b.now.level in
    let m = a.m.now in
    let i = c.in-Goto in
    by_form a.p.now l a.f.now m c.jump.new.m a.s.now (O.Goto i.j) (ap out-RStat i.is ∙ S.outs-Goto i.j) _
    (by_jump a.f.now m c.jump.new.m _ c.requires.fits _ _ _ _ c.jump.ensures.tag c.jump.ensures.machine (ap (λ x. x.leaves) c.get-in-Goto.ensures) (ap (λ x. x.statement) c.get-in-Goto.ensures))

pub returns-in-Label : goal.returns-in-Label
returns-in-Label g c =
    let a = c.args in
    let l = level a.p.now a.b.now.level in
    let m = a.m.now in
    let i = c.in-Label in
    by_form a.p.now l a.f.now m m a.s.now (O.Label i.field-0) (ap out-RStat i.is ∙ S.outs-Label i.field-0) _
    (by_going a.f.now m c.requires.fits)
