use Rattle.std.proofs.Common.{◌≡◌, length, ◌-◌}
use Rattle.std.specs.Io.KnownBytes.{Consumes}
use Rattle.lanes_program.proofs.reading.read_script.Given as goal

abbrev pub invariant-loop-piece : goal.invariant-loop-piece
invariant-loop-piece g l =
    (g.I.Source.faults l.input ≡ g.I.Source.faults l.initial.input)
    × Consumes (g.I.Source.left l.initial.input) (g.I.Source.left l.input) l.script.items

abbrev pub decreases-loop-piece : goal.decreases-loop-piece
decreases-loop-piece g l = 1048577 - length l.script.items
