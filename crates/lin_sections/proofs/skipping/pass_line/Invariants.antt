use Rattle.std.proofs.Common.{◌≡◌, ◌+◌, ◌≤◌, length}
use Rattle.lin_sections.specs.Passed.{behind_line}
use Rattle.lin_sections.proofs.skipping.pass_line.Given as goal

abbrev pub invariant-loop-kind : goal.invariant-loop-kind
invariant-loop-kind l = record {
  ends : behind_line l.depth l.parser ≡ behind_line 0 l.fn.parser;
  depth : l.depth + length l.parser ≤ l.left;
}

abbrev pub decreases-loop-kind : goal.decreases-loop-kind
decreases-loop-kind l = length l.parser
