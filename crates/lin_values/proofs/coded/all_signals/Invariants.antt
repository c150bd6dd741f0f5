use Rattle.std.proofs.Common.{◌≡◌, List, map, take}
use Rattle.lin_cluster.specs.Names.{NumbersFirst}
use Rattle.lin_parts.specs.declared.description.Name.{Name}
use Rattle.lin_values.specs.Gathered.{signal_in}
use Rattle.lin_values.proofs.coded.all_signals.Given as goal

abbrev pub invariant-loop-signal : goal.invariant-loop-signal
invariant-loop-signal l = (names : List Name) → NumbersFirst (λ n. n) names l.wide.map → l.signals.items ≡ map (signal_in names l.named.map) (take l.signal l.cluster.signals)
