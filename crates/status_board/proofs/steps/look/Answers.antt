use Rattle.std.proofs.Common.{arith}
use Rattle.status_board.proofs.Moves.{looks_step}
use Rattle.status_board.proofs.steps.look.Goals as goal

pub fetch_add-requires : goal.fetch_add-requires
fetch_add-requires c =
    let t = c.requires.table in
    let n = t.words in
    let l = c.requires.lane in
    let low = l.0 in
    (t.table_is, omega (arith, n, low), looks_step _ _ c.args.token.now.me.0 c.args.token.now.me.1 c.args.lane l.0 l.1)
