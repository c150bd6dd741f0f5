use Rattle.std.proofs.Common.{◌≡◌, ◌++◌, ◌+◌, ◌≤◌, length, map, None}
use Rattle.lin_log.specs.Judged.{left_length}
use Rattle.lin_bench.specs.Resolving.{lines_after, written_of}
use Rattle.lin_bench.specs.Written.{written_after, written_lines}
use Rattle.lin_bench.proofs.resolving.written_lines.Given as goal

abbrev pub invariant-loop-left : goal.invariant-loop-left
invariant-loop-left l = record {
  same : map written_of l.lines.items ++ written_after None l.number (lines_after l.left) ≡ written_lines l.text;
  few : l.number + left_length l.left ≤ length l.text + 2;
}

abbrev pub decreases-loop-left : goal.decreases-loop-left
decreases-loop-left l = left_length l.left
