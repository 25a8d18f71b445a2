use Rattle.std.proofs.Common.{◌∙◌, ◌<◌, length, Some, ap, sym, arith}
use Rattle.std.proofs.lemmas.Option.{slice_get-get_or}
use Rattle.object_store.proofs.RunLemmas.{lookup-in_run, set_value-in_run, lookup-off_run, set_value-off_run, on_some}
use Rattle.object_store.proofs.pairs.replace.Goals as goal

pub returns-in-Some-clause-old : goal.returns-in-Some-clause-old
returns-in-Some-clause-old c =
    let within : c.in-Some.i < length c.args.run.now.items = omega (arith, c.in-Some.ensures.0, c.len.ensures) in
    ap Some c.index-old.ensures ∙ sym (slice_get-get_or c.args.run.now.items c.in-Some.i _ within)
    ∙ lookup-in_run c.args.run.now.items c.args.rest.now.entries c.args.key c.in-Some.i within c.in-Some.ensures.1

pub returns-in-Some-clause-present : goal.returns-in-Some-clause-present
returns-in-Some-clause-present c = set_value-in_run c.args.run.now.items c.args.rest.now.entries c.args.key c.in-Some.i (omega (arith, c.in-Some.ensures.0, c.len.ensures)) c.in-Some.ensures.1 c.args.value

pub returns-clause-old : goal.returns-clause-old
returns-clause-old c = c.replace.ensures.old ∙ lookup-off_run c.args.run.now.items c.args.rest.now.entries c.args.key (λ k h. c.in_default.ensures k (omega (arith, h, c.len.ensures)))

pub returns-clause-present : goal.returns-clause-present
returns-clause-present c =
    on_some c.replace.result _ _ (set_value-off_run c.args.run.now.items c.args.rest.now.entries c.args.key (λ k h. c.in_default.ensures k (omega (arith, h, c.len.ensures))) c.args.value c.replace.new.self.entries) c.replace.ensures.present
