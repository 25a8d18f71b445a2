use Rattle.base_lib.proofs.States.{with_meta-absent}
use Rattle.base_lib.proofs.changes.set_meta.Goals as goal

pub returns-in-None : goal.returns-in-None
returns-in-None c = with_meta-absent c.args.state.now c.args.id.number c.args.meta c.in-None.ensures.table
