use Rattle.std.proofs.Common.{arith}
use Rattle.status_board.proofs.Moves.{asks_at}
use Rattle.status_board.proofs.steps.ask.Goals as goal

pub fetch_or-requires : goal.fetch_or-requires
fetch_or-requires c =
    let t = c.requires.table in
    let n = t.words in
    let l = c.requires.lane in
    let low = l.0 in
    (t.table_is, omega (arith, n, low), asks_at _ _ c.args.token.now.me c.args.lane c.args.kind _ c.bit.ensures l.0 l.1)
