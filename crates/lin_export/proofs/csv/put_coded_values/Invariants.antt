use Rattle.std.proofs.Common.{ℕ, flat_map, length}
use Rattle.std.specs.Prelude.{Some}
use Rattle.lin_frame.specs.Words.{numbers}
use Rattle.lin_frame.specs.declared.value.Value.{Value}
use Rattle.lin_core.specs.Signals.{ArePointwise}
use Rattle.lin_text.specs.Written.{Grows}
use Rattle.lin_export.specs.Csv.{after_comma, signal_cells}
use Rattle.lin_export.specs.KeptCells.{AreKept}
use Rattle.lin_export.proofs.csv.put_coded_values.Given as goal

abbrev pub invariant-loop-signal : goal.invariant-loop-signal
invariant-loop-signal g l = record {
  text : (says : ℕ → Value) → ArePointwise says l.values → Grows g.W.Write.contents l.initial.out l.out (flat_map after_comma (flat_map (signal_cells (Some l.coded) says) (numbers l.signal)));
  kept : AreKept l.coded (length l.cluster.signals) l.kept.items;
}
