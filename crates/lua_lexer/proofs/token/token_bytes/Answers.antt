use Rattle.std.proofs.Common.{◌∙◌, ap, false, ◌-◌, length, take, drop, arith}
use Rattle.lua_lexer.proofs.Shown.{rest_short, rest_within, shown_token}
use Rattle.lua_lexer.proofs.Places.{finish_seen}
use Rattle.lua_lexer.proofs.token.token_bytes.Goals as goal

pub overflow_sub-all : goal.overflow_sub-all
overflow_sub-all c =
    let same = c.as_slice-all.ensures in
    let short = rest_short c.args.script.now c.split_at.result.1.now c.in-Ok.rest.now c.args.at c.in-Ok.what (c.split_at.ensures.back ∙ ap (drop c.args.at) same) c.in-Ok.ensures in
    omega (arith, short, ap length same)

pub part-requires-clause-order : goal.part-requires-clause-order
part-requires-clause-order c =
    let same = c.as_slice-all.ensures in
    let within = rest_within c.args.script.now c.split_at.result.1.now c.in-Ok.rest.now c.args.at c.in-Ok.what (omega (arith, c.if-all-at.false, ap length same)) (c.split_at.ensures.back ∙ ap (drop c.args.at) same) c.in-Ok.ensures in
    omega (arith, within, ap length same)

pub returns : goal.returns
returns c =
    let same = c.as_slice-all.ensures in
    shown_token c.args.script.now c.split_at.result.1.now c.in-Ok.rest.now c.in_ok-part.field-0 c.args.at c.in-Ok.what (c.split_at.ensures.back ∙ ap (drop c.args.at) same) c.in-Ok.ensures
    (finish_seen c.in-Ok.what false c.if-is_end.ensures) (omega (arith, c.if-all-at.false, ap length same))
    (c.in_ok-part.ensures ∙ ap (λ n. take (n - length c.in-Ok.rest.now - c.args.at) (drop c.args.at c.args.script.now)) (ap length same))
