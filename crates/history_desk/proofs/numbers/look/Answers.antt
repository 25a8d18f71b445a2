use Rattle.std.proofs.Common.{arith}
use Rattle.history_desk.proofs.Seats.{looks_at}
use Rattle.history_desk.proofs.numbers.look.Goals as goal

pub load-requires : goal.load-requires
load-requires g c =
    let d = c.requires.desk in
    (d.0, omega (arith, d.1.0), looks_at g.S.Object.means g.S.Object.content _ _ c.args.seat.now.me c.requires.idle c.requires.own)
