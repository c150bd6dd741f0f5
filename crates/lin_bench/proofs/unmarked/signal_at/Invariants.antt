use Rattle.std.proofs.Common.{◌≡◌, ◌+◌, ◌<◌, length}
use Rattle.lin_bench.specs.Parts.{fields_of}
use Rattle.lin_bench.specs.Words.{last_signal, signal_in_fields}
use Rattle.lin_bench.proofs.unmarked.signal_at.Given as goal

abbrev pub invariant-loop-at : goal.invariant-loop-at
invariant-loop-at l = record {
  within : 0 < l.at → l.at + 1 < length (fields_of l.all);
  same : signal_in_fields l.cluster (fields_of l.all) ≡ last_signal l.cluster (fields_of l.all) l.at;
}

abbrev pub decreases-loop-at : goal.decreases-loop-at
decreases-loop-at l = l.at
