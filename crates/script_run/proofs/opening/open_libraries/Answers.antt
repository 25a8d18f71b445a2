use Rattle.script_run.proofs.Programs.{both_opened}
use Rattle.script_run.proofs.opening.open_libraries.Goals as goal

pub returns-in-Ok : goal.returns-in-Ok
returns-in-Ok c = both_opened c.args.state.now c.open_libs.new.state c.in-Ok.ensures.ok
