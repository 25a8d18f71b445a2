use Rattle.std.proofs.Common.{◌≡◌, ◌<◌, length, ap, arith}
use Rattle.std.proofs.lemmas.Bool.Decides.{nat_tests}
use Rattle.lua_lexer.specs.Bytes.{is_inline}
use Rattle.lua_lexer.proofs.Runs.{past_short}
use Rattle.lua_lexer.proofs.LineEnds.{line_start, start_stops, turn_count, turn_short, line_none}
use Rattle.lua_lexer.proofs.bytes.line_ends.Goals as goal

pub loop-left-init : goal.loop-left-init
loop-left-init c =
    let e = c.past_line-left.ensures in
    record {
      count = omega (arith, line_start c.args.bytes.now c.past_line-left.result.now e);
      few = omega (arith, past_short is_inline c.args.bytes.now, ap length e);
      stopped = start_stops c.args.bytes.now c.past_line-left.result.now e;
    }

pub loop-left-smaller : goal.loop-left-smaller
loop-left-smaller c =
    let n : 0 < length c.loop-left.left.now = grind (arith, nat_tests) in
    turn_short c.loop-left.left.now c.past_line_end.result.now c.past_line-left-in-loop-left.result.now c.loop-left.invariant.stopped n c.past_line_end.ensures c.past_line-left-in-loop-left.ensures

pub loop-left-preserved : goal.loop-left-preserved
loop-left-preserved c =
    let n : 0 < length c.loop-left.left.now = grind (arith, nat_tests) in
    let v = turn_short c.loop-left.left.now c.past_line_end.result.now c.past_line-left-in-loop-left.result.now c.loop-left.invariant.stopped n c.past_line_end.ensures c.past_line-left-in-loop-left.ensures in
    let k = turn_count c.loop-left.left.now c.past_line_end.result.now c.past_line-left-in-loop-left.result.now c.loop-left.invariant.stopped n c.past_line_end.ensures c.past_line-left-in-loop-left.ensures in
    record {
      count = omega (arith, k, c.loop-left.invariant.count);
      few = omega (arith, v, c.loop-left.invariant.few);
      stopped = start_stops c.past_line_end.result.now c.past_line-left-in-loop-left.result.now c.past_line-left-in-loop-left.ensures;
    }

pub returns-clause-count : goal.returns-clause-count
returns-clause-count c =
    let n : length c.loop-left.left.now ≡ 0 = grind (arith, nat_tests) in
    omega (arith, line_none c.loop-left.left.now n, c.loop-left.invariant.count)
