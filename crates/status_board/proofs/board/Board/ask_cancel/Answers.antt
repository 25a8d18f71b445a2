use Rattle.std.proofs.Common.{ap, ◌∙◌, length}
use Rattle.status_board.specs.Views.{has_drawn}
use Rattle.status_board.proofs.SeatLemmas.{drawn-with_ask}
use Rattle.status_board.proofs.Standings.{stands_asked}
use Rattle.status_board.proofs.board.Board.ask_cancel.Goals as goal

pub invariant_of-seat : goal.invariant_of-seat
invariant_of-seat c =
    let p = c.args.seat.now in
    record { idle = ap length c.ask.ensures.same.held ∙ p.idle; stands = stands_asked p.lane p.status p.over p.token.me.0 c.ask.new.token.me.0 c.args.lane c.args.kind c.ask.ensures.asked.0 p.stands c.ask.ensures.asked.1 c.requires.lane.1 }

pub returns-clause-numbers : goal.returns-clause-numbers
returns-clause-numbers c = λ number has.
    ap (λ v. has_drawn v number) c.ask.ensures.asked.1 ∙ (drawn-with_ask c.args.seat.now.token.me.0 c.args.lane c.args.kind c.ask.ensures.asked.0 number c.requires.lane.1 ∙ has)
