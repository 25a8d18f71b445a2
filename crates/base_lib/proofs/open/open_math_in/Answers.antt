use Rattle.std.proofs.Common.{rules}
use Rattle.base_lib.specs.declared.open.TheConstants.{MATH}
use Rattle.base_lib.specs.Open.{with_math, opened_math, opens}
use Rattle.base_lib.proofs.Opening.{opened_if-holds, opened_if-fails}
use Rattle.base_lib.proofs.open.open_math_in.Goals as goal

pub returns-then-not-is_opened-clause-ok : goal.returns-then-not-is_opened-clause-ok
unfolding with_math
returns-then-not-is_opened-clause-ok c =
    opened_if-fails c.is_opened.result (opens c.args.libs MATH) opened_math c.args.state.now (search rules) c.is_opened.ensures

pub returns-clause-ok : goal.returns-clause-ok
unfolding with_math
returns-clause-ok c =
    opened_if-holds c.is_opened.result (opens c.args.libs MATH) opened_math c.args.state.now c.open_math.new.state (search rules) c.is_opened.ensures
    c.in_ok-open_math.ensures.ok
