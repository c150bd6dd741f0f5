use Rattle.std.proofs.Common.{◌≡◌, length}
use Rattle.lin_sections.specs.Passed.{behind_lines}
use Rattle.lin_sections.proofs.skipping.pass_lines.Given as goal

abbrev pub invariant-loop-parser : goal.invariant-loop-parser
invariant-loop-parser l = behind_lines l.parser ≡ behind_lines l.fn.parser

abbrev pub decreases-loop-parser : goal.decreases-loop-parser
decreases-loop-parser l = length l.parser
