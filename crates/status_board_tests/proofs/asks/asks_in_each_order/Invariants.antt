use Rattle.status_board_tests.proofs.asks.asks_in_each_order.Given as goal

abbrev pub invariant-loop-first : goal.invariant-loop-first
invariant-loop-first g l = Unit {0}
