use Rattle.std.proofs.Common.{sym}
use Rattle.lua_lexer.proofs.Gaps.{gap_no_dashes, gap_open}
use Rattle.lua_lexer.proofs.gap.gap.Goals as goal

pub returns-in_default : goal.returns-in_default
returns-in_default c = gap_no_dashes c.args.bytes.now c.loop-inside.left.now c.past_blanks-at.result.now c.loop-inside.invariant c.past_blanks-at.ensures (sym c.in_default.ensures)

pub returns-in_default-comment : goal.returns-in_default-comment
returns-in_default-comment c =
    gap_open c.args.bytes.now c.loop-inside.left.now c.past_blanks-at.result.now c.in-Some.inside.now c.loop-inside.invariant c.past_blanks-at.ensures (sym c.in-Some.ensures) (sym c.in_default-comment.ensures)
