use Rattle.lin_bench.specs.Watches.{IsCycleState}
use Rattle.lin_bench.proofs.cycles.CycleState.read.Given as goal

abbrev pub invariant-loop-index : goal.invariant-loop-index
invariant-loop-index l =
    IsCycleState l.cluster l.log.entries (record {
      cycle = l.cycle;
      from = l.from;
      entries = l.index;
      skip = l.skip;
      slot = l.slot;
      time = l.time;
      begins = l.begins;
    })
