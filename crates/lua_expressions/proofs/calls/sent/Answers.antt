use Rattle.std.proofs.Common.{ap, ◌∷◌, []}
use Rattle.std.proofs.Math.Seq.{drop-append_seam}
use Rattle.lua_meaning.specs.Run.{lost}
use Rattle.lua_machine.proofs.Frames.{frame_above, fits_above}
use Rattle.lua_expressions.proofs.CallTurns.{one_more, got_above}
use Rattle.lua_expressions.proofs.calls.sent.Goals as goal

pub returns-in-Failed : goal.returns-in-Failed
returns-in-Failed g c = record { leads = λ k. rw c.in-Failed.ensures lost; stack = tt }

pub applied-requires-clause-fits : goal.applied-requires-clause-fits
applied-requires-clause-fits g c =
    let s = c.args.m.now.stack in
    fits_above c.args.f.now s c.push.new.self.stack c.requires.fits (one_more s c.push.new.self.stack c.args.m.now.value (ap (λ x. x.stack) c.in-Well.ensures))

pub returns : goal.returns
returns g c =
    let m = c.args.m.now in
    let s = m.stack in
    let m1 = c.push.new.self in
    let above = one_more s m1.stack m.value (ap (λ x. x.stack) c.in-Well.ensures) in
    let leads = rw (frame_above c.args.f.now s m1.stack c.requires.fits above, c.in-Well.ensures, c.len-at.ensures, drop-append_seam s.values (m.value ∷ [])) at c.applied.ensures.leads in
    let stack = rw c.len-at.ensures at c.applied.ensures.stack in
    record {
      leads = leads;
      stack = got_above _ s m1.stack c.applied.new.m.stack above c.applied.result stack;
    }
