use Rattle.std.proofs.Common.{ap, ◌∙◌, length}
use Rattle.status_board.specs.Views.{has_drawn}
use Rattle.status_board.proofs.SeatLemmas.{drawn-with_look}
use Rattle.status_board.proofs.Standings.{stands_looked}
use Rattle.status_board.proofs.board.Board.status.Goals as goal

pub invariant_of-seat : goal.invariant_of-seat
invariant_of-seat c =
    let p = c.args.seat.now in
    record { idle = ap length c.look.ensures.same.held ∙ p.idle; stands = stands_looked p.lane p.status p.over p.token.me.0 c.look.new.token.me.0 c.args.lane _ p.stands c.look.ensures.looked c.requires.lane.1 }

pub returns-clause-numbers : goal.returns-clause-numbers
returns-clause-numbers c = λ number has.
    ap (λ v. has_drawn v number) c.look.ensures.looked ∙ (drawn-with_look c.args.seat.now.token.me.0 c.args.lane _ number c.requires.lane.1 ∙ has)
