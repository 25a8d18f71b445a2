use Rattle.std.proofs.Common.{arith}
use Rattle.status_board.proofs.Drawing.{draws_step}
use Rattle.status_board.proofs.steps.draw.Goals as goal

pub fetch_add-requires : goal.fetch_add-requires
fetch_add-requires c =
    let t = c.requires.table in
    let n = t.words in
    (t.table_is, omega (arith, n), draws_step _ _ c.args.token.now.me.0 c.args.token.now.me.1 c.requires.own c.requires.none_over)
