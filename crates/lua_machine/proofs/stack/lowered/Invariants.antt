use Rattle.std.proofs.Common.{◌≡◌, ◌+◌, ◌++◌, take, drop, length}
use Rattle.lua_machine.proofs.stack.lowered.Given as goal

abbrev pub invariant-loop-i : goal.invariant-loop-i
invariant-loop-i l = record {
  front : take (l.to + l.i) l.values.items ≡ take l.to l.fn.values.items ++ take l.i (drop l.from l.fn.values.items);
  back : drop (l.from + l.i) l.values.items ≡ drop (l.from + l.i) l.fn.values.items;
  len : length l.values.items ≡ length l.fn.values.items;
}
