use Rattle.std.proofs.Common.{arith}
use Rattle.status_board.proofs.Moves.{hears_at}
use Rattle.status_board.proofs.steps.hear.Goals as goal

pub fetch_add-requires : goal.fetch_add-requires
fetch_add-requires c =
    let t = c.requires.table in
    let n = t.words in
    let o = c.requires.own in
    let low = o.1 in
    (t.table_is, omega (arith, n, low), hears_at _ _ c.args.token.now.me c.args.lane o.0 c.requires.has)
