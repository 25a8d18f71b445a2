use Rattle.std.proofs.Common.{ap, ◌∙◌, length, arith}
use Rattle.status_board.specs.Views.{has_drawn}
use Rattle.status_board.proofs.SeatLemmas.{drawn_stays-with_draw}
use Rattle.status_board.proofs.Standings.{stands_over}
use Rattle.status_board.proofs.board.Board.draw.Goals as goal

pub invariant_of-seat : goal.invariant_of-seat
invariant_of-seat c =
    let p = c.args.seat.now in
    record { idle = ap length c.draw-number.ensures.same.held ∙ p.idle; stands = stands_over p.lane p.status p.over c.draw-number.result p.token.me.0 c.draw-number.new.token.me.0 p.stands c.if-number-ge-LANES.true c.draw-number.ensures.drawn c.draw-number.ensures.whole }

pub returns-then-seat-ne0-clause-too_many : goal.returns-then-seat-ne0-clause-too_many
returns-then-seat-ne0-clause-too_many c =
    let s = c.args.seat.now.stands in
    let some_over = c.if-seat-ne0.true in
    (s.too_great (omega (arith, some_over)), s.over_is)

pub returns-then-number-ge-LANES-clause-numbers : goal.returns-then-number-ge-LANES-clause-numbers
returns-then-number-ge-LANES-clause-numbers c = λ number has.
    ap (λ v. has_drawn v number) c.draw-number.ensures.drawn ∙ drawn_stays-with_draw c.args.seat.now.token.me.0 c.draw-number.result number has

pub returns-clause-numbers : goal.returns-clause-numbers
returns-clause-numbers c = λ number has.
    ap (λ v. has_drawn v number) c.draw-number.ensures.drawn ∙ drawn_stays-with_draw c.args.seat.now.token.me.0 c.draw-number.result number has
