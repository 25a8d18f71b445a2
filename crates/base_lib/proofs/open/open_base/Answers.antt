use Rattle.base_lib.proofs.Opening.{opened_base-steps}
use Rattle.base_lib.proofs.open.open_base.Goals as goal

pub returns-clause-ok : goal.returns-clause-ok
returns-clause-ok c =
    opened_base-steps c.globals-globals.result.number c.args.state.now c.set_field.new.state c.intern.new.self
    c.set_field-2.new.state c.set_functions.new.state c.in_ok-version.version c.globals-globals.ensures.number
    c.in_ok-set_field.ensures.ok c.in_ok-version.ensures.heap c.in_ok-version.ensures.texts c.in_ok-version.ensures.room
    c.in_ok-version.ensures.value c.in_ok-set_field-2.ensures.ok c.in_ok-set_functions.ensures.ok
