use Rattle.std.proofs.Common.{ap, ◌∙◌, length}
use Rattle.status_board.proofs.Standings.{stands_met, handed_lane, handed_number}
use Rattle.status_board.proofs.board.Board.meet.Goals as goal

pub invariant_of-seat : goal.invariant_of-seat
invariant_of-seat c =
    let p = c.args.seat.now in
    record { idle = ap length c.join.ensures.same.held ∙ p.idle; stands = stands_met p.lane p.status p.over p.token.me.0 c.args.other.token.me.0 c.join.new.token.me.0 p.stands c.join.ensures.met c.join.ensures.whole }

pub returns-clause-lanes : goal.returns-clause-lanes
returns-clause-lanes c = handed_lane c.args.seat.now.token.me.0 c.args.other.token.me.0 c.join.new.token.me.0 c.join.ensures.met c.join.ensures.once

pub returns-clause-drawn : goal.returns-clause-drawn
returns-clause-drawn c = handed_number c.args.seat.now.token.me.0 c.args.other.token.me.0 c.join.new.token.me.0 c.join.ensures.met c.join.ensures.once
