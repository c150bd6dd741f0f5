use Rattle.std.proofs.Common.{◌≡◌, ◌++◌, map}
use Rattle.lin_parts.specs.declared.description.PlacedSignal.{PlacedSignal}
use Rattle.lin_field.proofs.frames.add_signals.Given as goal

abbrev pub invariant-loop-placed : goal.invariant-loop-placed
invariant-loop-placed l = l.signals.items ++ map (λ (p : PlacedSignal). p.signal) l.placed-iterator.rest.items ≡ l.fn.signals.items ++ map (λ (p : PlacedSignal). p.signal) l.fn.frame.placed
