use Rattle.std.proofs.Common.{drop}
use Rattle.lin_parts.specs.Cluster.{table_of}
use Rattle.lin_schedule.specs.Excursions.{IsSummary}
use Rattle.lin_schedule.proofs.excursion.Excursion.new.Given as goal

abbrev pub invariant-loop-entry : goal.invariant-loop-entry
invariant-loop-entry l = IsSummary l.awaited (drop l.entry (table_of l.cluster l.table)) l.count l.excursion
