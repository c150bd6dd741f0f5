use Rattle.std.proofs.Common.{◌≡◌, take}
use Rattle.std.specs.List.{enumerate_from, filter_map}
use Rattle.lin_cluster.specs.Described.{error_signal}
use Rattle.lin_cluster.proofs.described.error_signals.error_signals.Given as goal

abbrev pub invariant-loop-i : goal.invariant-loop-i
invariant-loop-i l = l.all.items ≡ filter_map (error_signal l.d) (enumerate_from 1 (take l.i l.d.slaves))
