use Rattle.std.proofs.Common.{◌≡◌, map}
use Rattle.std.specs.List.{range_with_len}
use Rattle.lin_parts.specs.Cluster.{frames_with}
use Rattle.lin_parts.proofs.carriers.all_carriers.Given as goal

abbrev pub invariant-loop-signal : goal.invariant-loop-signal
invariant-loop-signal l = l.all.items ≡ map (frames_with l.parts) (range_with_len 0 l.signal)
