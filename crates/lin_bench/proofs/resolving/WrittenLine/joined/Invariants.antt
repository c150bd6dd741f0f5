use Rattle.std.proofs.Common.{flat_map}
use Rattle.lin_log.specs.Judged.{left_length}
use Rattle.lin_bench.specs.Resolving.{lines_after, written_of}
use Rattle.lin_bench.specs.Written.{part_fields, written_fields}
use Rattle.lin_bench.proofs.WrittenFields.{AreJoined}
use Rattle.lin_bench.proofs.resolving.WrittenLine.joined.Given as goal

abbrev pub invariant-loop-left : goal.invariant-loop-left
invariant-loop-left l = AreJoined l.all.items (flat_map part_fields (lines_after l.left)) (written_fields (written_of l.self))

abbrev pub decreases-loop-left : goal.decreases-loop-left
decreases-loop-left l = left_length l.left
