use Rattle.std.proofs.Common.{◌≡◌, map, take}
use Rattle.lin_parts.specs.declared.description.PlacedSignal.{PlacedSignal}
use Rattle.lin_cluster.specs.Described.{signal_number}
use Rattle.lin_cluster.proofs.described.frames.signals_in.Given as goal

abbrev pub invariant-loop-one : goal.invariant-loop-one
invariant-loop-one l = l.numbers.items ≡ map (λ (p : PlacedSignal). signal_number l.signals p.signal) (take l.one-index l.placed)
