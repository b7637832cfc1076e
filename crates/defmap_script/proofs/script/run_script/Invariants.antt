use Rattle.std.proofs.Common.{◌+◌, ◌≤◌, length}
use Rattle.defmap_script.specs.Engine.{fresh}
use Rattle.defmap_script.specs.Runs.{lines, lines_left}
use Rattle.defmap_script.proofs.RunLemmas.{Printed}
use Rattle.defmap_script.proofs.script.run_script.Given as goal

-- what was printed, what is left to run, and room for the lines' numbers
abbrev pub invariant-loop-line : goal.invariant-loop-line
invariant-loop-line l =
    Printed l.fn.out.items l.out.items fresh (lines l.fn.input) l.engine l.number (lines_left l.line-iterator)
    × (l.number + length (lines_left l.line-iterator) ≤ length l.fn.input + 2)
    × (goal.iterator-loop-line).can_next l.line-iterator
    × (goal.iterator-loop-line).is_finite l.line-iterator
