use Rattle.lin_bench.specs.Searches.{AreClear}
use Rattle.lin_bench.proofs.left_events.find_left.Given as goal

abbrev pub invariant-loop-index : goal.invariant-loop-index
invariant-loop-index l = AreClear l.log.entries l.taken l.sought l.index
