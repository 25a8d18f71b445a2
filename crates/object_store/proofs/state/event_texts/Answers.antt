use Rattle.std.proofs.Common.{◌∙◌, sym}
use Rattle.std.proofs.Math.ListN.{drop_of_length-le}
use Rattle.object_store.specs.declared.event.Event.TheVariants as event
use Rattle.object_store.specs.Event.{all_events}
use Rattle.object_store.proofs.EventLemmas.{all_named_first, all_named_step, all_named_end}
use Rattle.object_store.proofs.state.event_texts.Goals as goal

pub loop-event-init : goal.loop-event-init
loop-event-init c = all_named_first c.new-names.result c.new-names.ensures

pub loop-event-preserved : goal.loop-event-preserved
loop-event-preserved c = all_named_step c.loop-event.names _ all_events c.loop-event.event-index event.Index _ c.loop-event-test.true c.name.ensures c.in_ok-name.ensures.texts ∙ c.loop-event.invariant

pub returns : goal.returns
returns c = sym (all_named_end c.loop-event.names _ (drop_of_length-le all_events c.loop-event-test.false)) ∙ c.loop-event.invariant
