use Rattle.std.proofs.Common.{subst, sym, ap, ◌∙◌}
use Rattle.std.specs.String.{string_bytes}
use Rattle.lanes_program.specs.Finish.{Finishes}
use Rattle.lanes_program.specs.Refusals.{script_name}
use Rattle.lanes_program.proofs.Finishes.{finishes, one_word}
use Rattle.lanes_program.proofs.finish.run_lanes.Goals as goal

pub returns-in-len1-clause-ran : goal.returns-in-len1-clause-ran
returns-in-len1-clause-ran g c = λ own.
    let i = g.I.Source.left c.args.input.now in
    let i1 = g.I.Source.left c.run_script-ended.new.input in
    let t = g.O.Sink.taken c.args.output in
    let t1 = g.O.Sink.taken c.run_script-ended.result.output in
    let f = g.O.Sink.faults c.args.output in
    let f1 = g.O.Sink.faults c.run_script-ended.result.output in
    let e = g.E.Sink.taken c.args.errors.now in
    let e1 = g.E.Sink.taken c.report-status.new.errors in
    let u = g.E.Sink.faults c.args.errors.now in
    let u1 = g.E.Sink.faults c.report-status.new.errors in
    let word = one_word string_bytes c.args.words.now c.word-item.result c.in-len1.len_at_least c.in-len1.len_below c.word-item.is in
    let same = c.script_name.ensures ∙ ap script_name c.deref.ensures ∙ sym word in
    subst (λ n. Finishes i i1 n t t1 f f1 e e1 u u1 c.report-status.result) same
    (finishes i i1 c.script_name.result.now t t1 f f1 e e1 u u1 c.run_script-ended.result.end c.report-status.result c.report-status.ensures.status c.run_script-ended.ensures.ran c.report-status.ensures.ran own)
