use Rattle.std.proofs.Common.{arith, ◌∙◌}
use Rattle.status_board.proofs.Meeting.{joins_step, compares_step}
use Rattle.status_board.proofs.steps.join.Goals as goal

pub join_seat-requires : goal.join_seat-requires
join_seat-requires c =
    let t = c.requires.table in
    let n = t.0.words in
    (t.0.table_is, t.1.table_is, c.requires.idle, omega (arith, n), joins_step _ c.args.token.now.me.0 _ c.args.other.me.0)

pub load-requires : goal.load-requires
load-requires c =
    let t = c.requires.table in
    let n = t.0.words in
    (c.join_seat.ensures.0 ∙ t.0.table_is, omega (arith, n), compares_step _ _ c.join_seat.new.seat.me.0 c.join_seat.new.seat.me.1)
