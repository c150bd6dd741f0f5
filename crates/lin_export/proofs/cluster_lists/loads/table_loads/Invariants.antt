use Rattle.std.proofs.Common.{◌≡◌, map}
use Rattle.lin_frame.specs.Words.{numbers}
use Rattle.lin_export.specs.TableLoads.{table_load}
use Rattle.lin_export.proofs.cluster_lists.loads.table_loads.Given as goal

abbrev pub invariant-loop-table : goal.invariant-loop-table
invariant-loop-table l = l.loads.items ≡ map (table_load l.cluster) (numbers l.table)
