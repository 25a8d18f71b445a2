use Rattle.std.proofs.Common.{◌≡◌, drop, map}
use Rattle.object_store.specs.Closed.{IsClosed}
use Rattle.base_lib.specs.Open.{with_fields, function_field}
use Rattle.base_lib.proofs.open.set_functions.Given as goal

-- setting the functions that are left leads from this state to the one that all lead to
abbrev pub invariant-loop-number : goal.invariant-loop-number
invariant-loop-number l = record {
  same :
      with_fields l.id.number l.state (map function_field (drop l.number-index l.numbers))
      ≡ with_fields l.id.number l.initial.state (map function_field l.numbers);
  closed : IsClosed l.initial.state → IsClosed l.state;
}
