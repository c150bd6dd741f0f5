use Rattle.std.proofs.Common.{◌≤◌, length}
use Rattle.lin_log.specs.Judged.{left_length}
use Rattle.lin_bench.specs.Replacing.{pieces_left}
use Rattle.lin_bench.proofs.ReplacedFields.{AreAdded}
use Rattle.lin_bench.proofs.parameters.Parameters.add_field.Given as goal

abbrev pub invariant-loop-left : goal.invariant-loop-left
invariant-loop-left l = record {
  added : AreAdded l.self.given.now l.self.sets.now l.field l.fn.line.items l.line.items (pieces_left l.left);
  short : length l.line.items ≤ 65537;
}

abbrev pub decreases-loop-left : goal.decreases-loop-left
decreases-loop-left l = left_length l.left
