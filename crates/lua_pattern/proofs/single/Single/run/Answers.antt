use Rattle.std.proofs.Common.{sym}
use Rattle.lua_pattern.proofs.Runs.{run_any}
use Rattle.lua_pattern.proofs.single.Single.run.Goals as goal

pub returns-in-Any-clause-run : goal.returns-in-Any-clause-run
returns-in-Any-clause-run c = rw c.in-Any.is (sym (run_any c.args.bytes.now))
