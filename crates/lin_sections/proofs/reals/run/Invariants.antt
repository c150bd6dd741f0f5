use Rattle.std.proofs.Common.{◌≡◌, ◌+◌, ◌++◌, length}
use Rattle.lin_sections.specs.Coding.{run, run_from}
use Rattle.lin_sections.proofs.reals.run.Given as goal

abbrev pub invariant-loop-parser : goal.invariant-loop-parser
invariant-loop-parser l =
    run l.initial.parser ≡ (l.text.items ++ (run_from l.place.line (l.place.column + l.length) l.parser).0, (run_from l.place.line (l.place.column + l.length) l.parser).1)

abbrev pub decreases-loop-parser : goal.decreases-loop-parser
decreases-loop-parser l = length l.parser
