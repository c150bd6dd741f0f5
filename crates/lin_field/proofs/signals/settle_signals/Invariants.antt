use Rattle.std.proofs.Common.{◌≡◌, ◌++◌, map}
use Rattle.std.specs.List.{flat_map}
use Rattle.lin_field.specs.Signals.{settled_signal, signal_warnings}
use Rattle.lin_field.proofs.signals.settle_signals.Given as goal

abbrev pub invariant-loop-signal : goal.invariant-loop-signal
invariant-loop-signal l = record {
  settled : l.settled.items ++ map (settled_signal l.nodes) l.signal-iterator.rest.items ≡ map (settled_signal l.nodes) l.fn.signals;
  warned : l.warned.items ++ flat_map (signal_warnings l.nodes) l.signal-iterator.rest.items ≡ l.fn.warned.items ++ flat_map (signal_warnings l.nodes) l.fn.signals;
}
