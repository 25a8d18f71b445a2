use Rattle.std.proofs.Common.{rules}
use Rattle.base_lib.specs.declared.open.TheConstants.{BASE}
use Rattle.base_lib.specs.Open.{with_base, opened_base, opens}
use Rattle.base_lib.proofs.Opening.{opened_if-holds, opened_if-fails}
use Rattle.base_lib.proofs.open.open_base_in.Goals as goal

pub returns-then-not-is_opened-clause-ok : goal.returns-then-not-is_opened-clause-ok
unfolding with_base
returns-then-not-is_opened-clause-ok c =
    opened_if-fails c.is_opened.result (opens c.args.libs BASE) opened_base c.args.state.now (search rules) c.is_opened.ensures

pub returns-clause-ok : goal.returns-clause-ok
unfolding with_base
returns-clause-ok c =
    opened_if-holds c.is_opened.result (opens c.args.libs BASE) opened_base c.args.state.now c.open_base.new.state (search rules) c.is_opened.ensures
    c.in_ok-open_base.ensures.ok
