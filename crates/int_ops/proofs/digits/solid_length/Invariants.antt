use Rattle.std.proofs.Common.{◌≡◌, ◌+◌, ◌≤◌, length}
use Rattle.int_ops.specs.Reading.{up_to_blanks}
use Rattle.int_ops.proofs.Trims.{solid_from}
use Rattle.int_ops.proofs.digits.solid_length.Given as goal

abbrev pub invariant-loop-first : goal.invariant-loop-first
invariant-loop-first l = record { fits : l.at + length l.left ≡ length l.fn.text; solid : l.solid ≤ l.at; value : solid_from l.solid l.at (up_to_blanks l.left) ≡ length (up_to_blanks l.fn.text) }

abbrev pub decreases-loop-first : goal.decreases-loop-first
decreases-loop-first l = length l.left
