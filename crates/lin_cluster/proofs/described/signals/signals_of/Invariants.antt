use Rattle.std.proofs.Common.{◌≡◌, map, take}
use Rattle.lin_cluster.specs.Described.{described_signal}
use Rattle.lin_cluster.proofs.described.signals.signals_of.Given as goal

abbrev pub invariant-loop-signal : goal.invariant-loop-signal
invariant-loop-signal l = l.made.items ≡ map (described_signal l.d) (take l.signal-index l.signals)
