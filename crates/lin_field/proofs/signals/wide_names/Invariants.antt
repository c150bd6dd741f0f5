use Rattle.std.proofs.Common.{◌≡◌, take}
use Rattle.lin_field.specs.Signals.{wide_names}
use Rattle.lin_field.proofs.signals.wide_names.Given as goal

abbrev pub invariant-loop-signal : goal.invariant-loop-signal
invariant-loop-signal l = l.names.items ≡ wide_names (take l.signal-index l.signals)
