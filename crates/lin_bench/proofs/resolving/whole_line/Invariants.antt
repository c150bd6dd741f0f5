use Rattle.std.proofs.Common.{◌+◌, ◌-◌, length}
use Rattle.lin_bench.proofs.WrittenLines.{AreTaken}
use Rattle.lin_bench.proofs.resolving.whole_line.Given as goal

abbrev pub invariant-loop-more : goal.invariant-loop-more
invariant-loop-more l = AreTaken l.text l.line l.rest l.count

abbrev pub decreases-loop-more : goal.decreases-loop-more
decreases-loop-more l = length l.text + 2 - l.count
