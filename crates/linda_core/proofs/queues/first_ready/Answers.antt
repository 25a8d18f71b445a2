use Rattle.std.proofs.Common.{ap, sym, ◌∙◌, nat_lt, find}
use Rattle.std.proofs.lemmas.List.{at_drop_all}
use Rattle.linda_core.specs.SequentialLinda.{has_value}
use Rattle.linda_core.specs.Holding.{seen}
use Rattle.linda_core.proofs.ReadyLemmas.{has_value-known, has_value-unknown, find_here, find_past, some_more, none_more}
use Rattle.linda_core.proofs.queues.first_ready.Goals as goal
use Rattle.linda_core.proofs.queues.first_ready.Goals.{in-Some+else-len-gt0, in_default}

pub returns-then-len-gt0-clause-key : goal.returns-then-len-gt0-clause-key
returns-then-len-gt0-clause-key c =
    let passes = has_value-known _ c.key-item.result _ (sym c.in-Some.ensures.value) ∙ ap (nat_lt 0) (sym c.len.ensures) ∙ some_more _ c.if-len-gt0.true in
    sym (c.loop-key.invariant ∙ find_here (has_value (seen c.args.queues.now.entries)) c.args.listed.now c.loop-key.key-index c.key-item.result c.loop-key-test.true c.key-item.is passes)

pub loop-key-preserved : goal.loop-key-preserved
loop-key-preserved c =
    c.loop-key.invariant
    ∙ elim c.match-get_full.branch [
      | in-Some+else-len-gt0 w ↦
          find_past (has_value (seen c.args.queues.now.entries)) c.args.listed.now c.loop-key.key-index c.key-item.result c.loop-key-test.true c.key-item.is
          (has_value-known _ c.key-item.result _ (sym w.in-Some.ensures.value) ∙ ap (nat_lt 0) (sym w.len.ensures) ∙ none_more _ w.if-len-gt0.false)
      | in_default w ↦
          find_past (has_value (seen c.args.queues.now.entries)) c.args.listed.now c.loop-key.key-index c.key-item.result c.loop-key-test.true c.key-item.is
          (has_value-unknown _ c.key-item.result (sym w.in_default.ensures.value))
    ]

pub returns-clause-key : goal.returns-clause-key
returns-clause-key c = sym (c.loop-key.invariant ∙ at_drop_all (find (has_value (seen c.args.queues.now.entries))) c.args.listed.now c.loop-key.key-index c.loop-key-test.false)
