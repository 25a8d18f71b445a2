use Rattle.std.proofs.Common.{◌∙◌}
use Rattle.std.proofs.lemmas.Result.{err_from_is_err_and}
use Rattle.lanes_asks.proofs.AskLemmas.{send_answer, send_fault}
use Rattle.lanes_asks.proofs.asks.send_ask.Goals as goal

pub returns-in_err-op : goal.returns-in_err-op
returns-in_err-op c =
    let p = err_from_is_err_and c.from_residual-in_err-op.result c.from_residual-in_err-op.ensures.1 in
    rw (p.1, p.2)
    (send_fault c.args.state.now.texts c.args.args.now c.copied.result c.after_first.result.now
    c.in_ok-linda.linda c.in_ok-timed.timed c.in_ok-timed.rest.now
    (c.copied.ensures ∙ c.first.ensures.value) c.after_first.ensures c.in_ok-linda.ensures
    c.in_ok-timed.ensures c.in_err-op.field-0.0 c.in_err-op.ensures)

pub returns : goal.returns
returns c =
    send_answer c.args.state.now.texts c.args.args.now c.copied.result c.after_first.result.now
    c.in_ok-linda.linda c.in_ok-timed.timed c.in_ok-timed.rest.now
    (c.copied.ensures ∙ c.first.ensures.value) c.after_first.ensures c.in_ok-linda.ensures
    c.in_ok-timed.ensures c.in_ok-op.op c.linda_ask.result c.in_ok-op.ensures c.linda_ask.ensures
