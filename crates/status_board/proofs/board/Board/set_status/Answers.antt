use Rattle.std.proofs.Common.{ap, ◌∙◌, length}
use Rattle.status_board.proofs.Standings.{stands_status}
use Rattle.status_board.proofs.board.Board.set_status.Goals as goal

pub invariant_of-seat : goal.invariant_of-seat
invariant_of-seat c =
    let p = c.args.seat.now in
    record { idle = ap length c.set.ensures.same.held ∙ p.idle; stands = stands_status p.lane p.status c.args.to p.over c.set.ensures.set.0 p.token.me.0 c.set.new.token.me.0 p.stands c.requires.may c.set.ensures.set.1 }
