use Rattle.lua_lexer.proofs.LineEnds.{feeds_line}
use Rattle.lua_lexer.proofs.text.line_feeds.Goals as goal

pub loop-first-preserved-then-is_line_end : goal.loop-first-preserved-then-is_line_end
loop-first-preserved-then-is_line_end c =
    let t = c.if-is_line_end in
    let e = feeds_line c.loop-first.found.items c.loop-first.left.now c.in-Some.first c.in-Some.rest.now c.in-Some.ensures (cc) in
    cc (e, c.loop-first.invariant, c.past_line_end-left.ensures, c.in_ok-push.ensures.items)
