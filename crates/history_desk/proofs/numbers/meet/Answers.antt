use Rattle.std.proofs.Common.{◌≡◌, arith, sym, ◌∙◌, ap}
use Rattle.history_desk.proofs.Seats.{joins_at, settles_at}
use Rattle.history_desk.proofs.Knowledge.{met_of}
use Rattle.history_desk.proofs.numbers.meet.Goals as goal

pub join_seat-requires : goal.join_seat-requires
join_seat-requires g c =
    let d = c.requires.desk in
    let i = c.requires.idle in
    (d.0, d.1, ap (λ u. u.1) i.1, omega (arith, d.2.0), joins_at g.S.Object.means g.S.Object.content _ c.args.seat.now.me _ c.args.other.me i.0 i.1)

pub load-requires : goal.load-requires
load-requires g c =
    let d = c.requires.desk in
    (c.join_seat.ensures.0 ∙ d.0, omega (arith, d.2.0), settles_at g.S.Object.means g.S.Object.content _ _ c.join_seat.new.seat.me (ap (λ u. u.0.busy) c.join_seat.ensures.2 ∙ ap (λ u. u.0.busy) c.requires.idle.0))

pub returns-clause-met : goal.returns-clause-met
returns-clause-met g c =
    (met_of g.S.Object.means c.args.seat.now.me c.args.other.me c.join_seat.new.seat.me c.load.new.seat.me c.load.result c.join_seat.ensures.2 c.load.ensures.2 c.requires.idle.0 c.requires.sound.0 c.requires.sound.1).1

pub returns-clause-sound : goal.returns-clause-sound
returns-clause-sound g c =
    (met_of g.S.Object.means c.args.seat.now.me c.args.other.me c.join_seat.new.seat.me c.load.new.seat.me c.load.result c.join_seat.ensures.2 c.load.ensures.2 c.requires.idle.0 c.requires.sound.0 c.requires.sound.1).2
