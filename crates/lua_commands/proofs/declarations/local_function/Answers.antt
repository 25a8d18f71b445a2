use Rattle.std.proofs.Common.{subst, slice_get}
use Rattle.object_store.specs.declared.value.Value.TheVariants as V
use Rattle.lua_meaning.specs.Levels.{level}
use Rattle.lua_meaning.specs.Expressions.{function}
use Rattle.lua_meaning.specs.Statements.{declare, assign, line_of}
use Rattle.lua_meaning.specs.Run.{and_then}
use Rattle.lua_machine.specs.declared.machine.Done.TheVariants.{Well, Failed}
use Rattle.lua_machine.specs.Does.{OneOf, frame, world}
use Rattle.lua_machine.specs.Moved.{LocalsOf}
use Rattle.lua_machine.proofs.Frames.{fits_around}
use Rattle.lua_commands.proofs.Follow.{after_value, no_value, after_locals, no_locals, locals_moved}
use Rattle.lua_commands.proofs.declarations.local_function.Goals as goal

pub returns-in-Failed : goal.returns-in-Failed
returns-in-Failed g c =
    let a = c.args in
    let p = a.p.now in
    let l = level p a.b.now.level in
    let f = a.f.now in
    let m = a.m.now in
    let m1 = c.declare.new.self in
    let failed : LocalsOf g.H.Host.asked (declare p (frame f m.stack) a.r.now V.Nil (world m)) m f Failed m1 = record { leads = c.in-Failed.ensures.leads; stack = tt } in
    no_locals f m m1 _ (λ x w k. function p l x (line_of p l (slice_get p.program.protos a.n)) a.n w (and_then k (λ v w. assign x a.r.now v w k))) failed

pub function-requires-clause-fits : goal.function-requires-clause-fits
function-requires-clause-fits g c = fits_around c.args.f.now c.args.m.now.stack c.declare.new.self.stack c.requires.fits c.in-Well.ensures.stack

pub returns-in-Failed-function : goal.returns-in-Failed-function
returns-in-Failed-function g c =
    let a = c.args in
    let p = a.p.now in
    let l = level p a.b.now.level in
    let f = a.f.now in
    let m = a.m.now in
    let m1 = c.declare.new.self in
    let m2 = c.function.new.m in
    let begun : LocalsOf g.H.Host.asked (declare p (frame f m.stack) a.r.now V.Nil (world m)) m f Well m1 = record { leads = c.in-Well.ensures.leads; stack = c.in-Well.ensures.stack } in
    let made = subst (λ n. OneOf g.H.Host.asked (function p l (frame f m1.stack) n a.n (world m1)) m1 Failed m2) (c.line_of-line.ensures l) c.in-Failed-function.ensures in
    after_locals f m m1 m2 _ (λ x w k. function p l x (line_of p l (slice_get p.program.protos a.n)) a.n w (and_then k (λ v w. assign x a.r.now v w k))) c.requires.fits _ begun
    (no_value f m1 m2 _ (λ v w k. assign (frame f m1.stack) a.r.now v w k) made)

pub returns : goal.returns
returns g c =
    let a = c.args in
    let p = a.p.now in
    let l = level p a.b.now.level in
    let f = a.f.now in
    let m = a.m.now in
    let m1 = c.declare.new.self in
    let m2 = c.function.new.m in
    let m3 = c.assign.new.self in
    let begun : LocalsOf g.H.Host.asked (declare p (frame f m.stack) a.r.now V.Nil (world m)) m f Well m1 = record { leads = c.in-Well.ensures.leads; stack = c.in-Well.ensures.stack } in
    let made = subst (λ n. OneOf g.H.Host.asked (function p l (frame f m1.stack) n a.n (world m1)) m1 Well m2) (c.line_of-line.ensures l) c.in-Well-function.ensures in
    let assigned = locals_moved f m2 m3 c.assign.result m2.stack m1.stack c.in-Well-function.ensures.stack (λ x. assign x a.r.now m2.value (world m2)) c.assign.ensures in
    after_locals f m m1 m3 _ (λ x w k. function p l x (line_of p l (slice_get p.program.protos a.n)) a.n w (and_then k (λ v w. assign x a.r.now v w k))) c.requires.fits _ begun
    (after_value f m1 m2 m3 _ (λ v w k. assign (frame f m1.stack) a.r.now v w k) _ made assigned)
