use Rattle.std.proofs.Common.{◌≡◌, drop}
use Rattle.object_store.specs.Event.{event_names}
use Rattle.object_store.proofs.EventLemmas.{all_named}
use Rattle.object_store.proofs.state.event_texts.Given as goal

abbrev pub invariant-loop-event : goal.invariant-loop-event
invariant-loop-event l = all_named l.names (drop l.event-index l.event-items) ≡ event_names
