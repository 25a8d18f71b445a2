use Rattle.std.proofs.Common.{ap, ◌∙◌, length}
use Rattle.status_board.specs.Views.{has_drawn}
use Rattle.status_board.proofs.SeatLemmas.{drawn-with_seat}
use Rattle.status_board.proofs.Standings.{stands_seat}
use Rattle.status_board.proofs.board.Board.seat_for.Goals as goal

pub invariant_of-seat : goal.invariant_of-seat
invariant_of-seat c =
    let p = c.args.seat.now in
    record { idle = ap length c.cut-token.ensures.same.held ∙ p.idle; stands = stands_seat p.lane p.status p.over p.token.me.0 c.cut-token.new.token.me.0 c.args.lane p.stands c.cut-token.ensures.made c.cut-token.ensures.alone.1 }

pub returns-clause-numbers : goal.returns-clause-numbers
returns-clause-numbers c = λ number has.
    ap (λ v. has_drawn v number) c.cut-token.ensures.made ∙ (drawn-with_seat c.args.seat.now.token.me.0 c.args.lane number c.requires.lane.1 ∙ has)
