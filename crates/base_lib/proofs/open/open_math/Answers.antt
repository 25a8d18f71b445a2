use Rattle.object_store.specs.Table.{contents_of}
use Rattle.object_store.specs.Closed.{bounds_of}
use Rattle.base_lib.specs.Open.{IsFull, math_fields}
use Rattle.base_lib.proofs.Opening.{math_within, empty_within, full_through}
use Rattle.base_lib.proofs.open.open_math.Goals as goal

pub returns-in_err-reserve-clause-full : goal.returns-in_err-reserve-clause-full
returns-in_err-reserve-clause-full c =
    full_through c.in_err-reserve.field-0.0 c.from_residual.result (IsFull c.args.state.now)
    c.from_residual.ensures.1 c.in_err-reserve.ensures.full

pub returns-in_err-set_field-clause-closed : goal.returns-in_err-set_field-clause-closed
returns-in_err-set_field-clause-closed c =
    λ closed.
    c.set_field.ensures.closed
    (c.in_ok-set_math.ensures.closed
    (c.add_table-math.ensures.closed (c.in_ok-reserve.ensures.closed closed)
    (empty_within (bounds_of c.reserve.new.self) (contents_of c.new.result) c.new.ensures.pairs c.new.ensures.meta)))
    (math_within c.add_table-math.result.number c.add_table-math.result.number c.reserve.new.self c.add_table-math.new.self c.set_math.new.state
    (contents_of c.new.result) math_fields c.add_table-math.ensures.number c.add_table-math.ensures.heap c.in_ok-set_math.ensures.ok)

pub returns-clause-closed : goal.returns-clause-closed
returns-clause-closed c =
    λ closed.
    c.set_field.ensures.closed
    (c.in_ok-set_math.ensures.closed
    (c.add_table-math.ensures.closed (c.in_ok-reserve.ensures.closed closed)
    (empty_within (bounds_of c.reserve.new.self) (contents_of c.new.result) c.new.ensures.pairs c.new.ensures.meta)))
    (math_within c.add_table-math.result.number c.add_table-math.result.number c.reserve.new.self c.add_table-math.new.self c.set_math.new.state
    (contents_of c.new.result) math_fields c.add_table-math.ensures.number c.add_table-math.ensures.heap c.in_ok-set_math.ensures.ok)
