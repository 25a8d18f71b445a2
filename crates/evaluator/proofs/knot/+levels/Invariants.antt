use Rattle.evaluator.proofs.knot.+levels.Given as goal

abbrev pub decreases-expr_at : goal.decreases-expr_at
decreases-expr_at g l = l.level

abbrev pub decreases-multi_at : goal.decreases-multi_at
decreases-multi_at g l = l.level

abbrev pub decreases-call_at : goal.decreases-call_at
decreases-call_at g l = l.level

abbrev pub decreases-stmt_at : goal.decreases-stmt_at
decreases-stmt_at g l = l.level
