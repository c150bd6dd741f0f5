use Rattle.std.proofs.Common.{◌≤◌, length}
use Rattle.lin_bench.specs.Parts.{fields_of}
use Rattle.lin_bench.proofs.ReplacedFields.{AreReplaced}
use Rattle.lin_bench.proofs.parameters.Parameters.replaced.Given as goal

abbrev pub invariant-loop-field : goal.invariant-loop-field
invariant-loop-field l = record {
  replaced : AreReplaced l.self.given.now l.self.sets.now (fields_of l.fields) l.line.items l.gap (fields_of l.left);
  short : length l.line.items ≤ 65537;
}

abbrev pub decreases-loop-field : goal.decreases-loop-field
decreases-loop-field l = l.left.count
