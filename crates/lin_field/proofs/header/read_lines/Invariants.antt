use Rattle.std.proofs.Common.{◌≡◌, length}
use Rattle.lin_field.specs.Grammar.{lines_behind, no_lines}
use Rattle.lin_field.proofs.header.read_lines.Given as goal

abbrev pub invariant-loop-lines : goal.invariant-loop-lines
invariant-loop-lines l = (lines_behind l.lines).read l.parser ≡ (lines_behind no_lines).read l.initial.parser

abbrev pub decreases-loop-lines : goal.decreases-loop-lines
decreases-loop-lines l = length l.parser
