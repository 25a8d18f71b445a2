use Rattle.std.proofs.Common.{arith, ◌∙◌}
use Rattle.status_board.proofs.Meeting.{chooses_step, splits_at, newcomer_at}
use Rattle.status_board.proofs.steps.cut.Goals as goal

pub load-requires : goal.load-requires
load-requires c =
    let t = c.requires.table in
    let n = t.words in
    let l = c.requires.lane in
    let low = l.0.0 in
    (t.table_is, omega (arith, n, low), chooses_step _ _ c.args.token.now.me.0 c.args.token.now.me.1 c.args.lane l.0.1 l.1)

pub split_seat-requires : goal.split_seat-requires
split_seat-requires c =
    let t = c.requires.table in
    let n = t.words in
    let l = c.requires.lane in
    (c.load.ensures.0 ∙ t.table_is, omega (arith, n), splits_at _ c.args.token.now.me c.load.new.seat.me c.args.lane c.load.ensures.2 l.0.0 l.1)

pub returns-clause-new : goal.returns-clause-new
returns-clause-new c = (c.split_seat.ensures.3 ∙ c.load.ensures.0, newcomer_at c.args.token.now.me c.load.new.seat.me c.split_seat.result.me c.args.lane c.load.ensures.2 c.split_seat.ensures.4)
