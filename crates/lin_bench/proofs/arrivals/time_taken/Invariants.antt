use Rattle.std.proofs.Common.{◌≡◌, ◌≤◌, length}
use Rattle.lin_bench.specs.Searches.{before}
use Rattle.lin_bench.proofs.arrivals.time_taken.Given as goal

abbrev pub invariant-loop-index : goal.invariant-loop-index
invariant-loop-index l = record {
  within : l.index ≤ length l.log.entries;
  same : before l.log.entries l.answer (record { entry = l.index; events = l.skip }) ≡ before l.log.entries l.answer l.fn.from;
}
