use Rattle.std.proofs.Common.{ℕ, flat_map}
use Rattle.std.specs.Prelude.{None}
use Rattle.lin_frame.specs.Words.{numbers}
use Rattle.lin_frame.specs.declared.value.Value.{Value}
use Rattle.lin_core.specs.Signals.{ArePointwise}
use Rattle.lin_text.specs.Written.{Grows}
use Rattle.lin_export.specs.Csv.{after_comma, signal_cells}
use Rattle.lin_export.proofs.csv.put_plain_values.Given as goal

abbrev pub invariant-loop-signal : goal.invariant-loop-signal
invariant-loop-signal g l =
    (says : ℕ → Value) → ArePointwise says l.values → Grows g.W.Write.contents l.initial.out l.out (flat_map after_comma (flat_map (signal_cells None says) (numbers l.signal)))
