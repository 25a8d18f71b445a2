use Rattle.std.proofs.Common.{arith}
use Rattle.status_board.proofs.Moves.{sets_at}
use Rattle.status_board.proofs.steps.set.Goals as goal

pub fetch_xor-requires : goal.fetch_xor-requires
fetch_xor-requires c =
    let t = c.requires.table in
    let n = t.words in
    let o = c.requires.own in
    let low = o.1 in
    (t.table_is, omega (arith, n, low), sets_at _ _ c.args.token.now.me c.args.lane c.args.from c.args.to _ _ o.0 c.requires.has c.requires.from c.requires.may c.code.ensures c.code-2.ensures)
