use Rattle.std.proofs.Common.{◌≡◌, map, take}
use Rattle.lin_cluster.specs.Described.{subscribes}
use Rattle.lin_cluster.proofs.described.error_signals.subscribed.Given as goal

abbrev pub invariant-loop-signal : goal.invariant-loop-signal
invariant-loop-signal l = l.all.items ≡ map (subscribes l.node) (take l.signal-index l.signals)
