use Rattle.lin_export.specs.KeptCells.{AreKept}
use Rattle.lin_export.proofs.kept_cells.all_cells.Given as goal

abbrev pub invariant-loop-signal : goal.invariant-loop-signal
invariant-loop-signal l = AreKept l.coded l.signal l.kept.items
