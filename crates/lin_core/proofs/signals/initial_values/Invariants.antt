use Rattle.std.proofs.Common.{◌≡◌, map, take}
use Rattle.lin_parts.specs.declared.parts.Signal.{Signal}
use Rattle.lin_core.proofs.signals.initial_values.Given as goal

abbrev pub invariant-loop-signal : goal.invariant-loop-signal
invariant-loop-signal l = l.values.items ≡ map (λ (s : Signal). s.initial) (take l.signal l.cluster.signals)
