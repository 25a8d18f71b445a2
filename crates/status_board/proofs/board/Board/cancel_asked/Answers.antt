use Rattle.std.proofs.Common.{ap, ◌∙◌, length}
use Rattle.status_board.specs.Words.{soft_in, hard_in}
use Rattle.status_board.proofs.Standings.{stands_bits}
use Rattle.status_board.proofs.board.Board.cancel_asked.Goals as goal

pub invariant_of-seat : goal.invariant_of-seat
invariant_of-seat c =
    let p = c.args.seat.now in
    record { idle = ap length c.hear.ensures.same.held ∙ p.idle; stands = stands_bits p.lane p.status p.over p.token.me.0 c.hear.new.token.me.0 _ _ p.stands c.hear.ensures.heard }

pub returns-clause-heard : goal.returns-clause-heard
returns-clause-heard c = record {
  soft = soft_in c.hear.result;
  hard = hard_in c.hear.result;
  shown = c.hear.ensures.heard;
  soft_stays = c.hear.ensures.soft;
  hard_stays = c.hear.ensures.hard;
  answer_is = c.in_bits.ensures;
}
