use Rattle.std.proofs.Common.{◌≡◌, take}
use Rattle.std.specs.Prelude.{count_by}
use Rattle.lin_parts.specs.Cluster.{table_of}
use Rattle.lin_parts.specs.declared.parts.Line.{Line}
use Rattle.lin_schedule.specs.Occurs.{is_own}
use Rattle.lin_schedule.proofs.spacing.first_own.Given as goal

abbrev pub invariant-loop-slot : goal.invariant-loop-slot
invariant-loop-slot l = count_by (λ (x : Line). is_own l.frame x.entry) (take l.slot (table_of l.cluster l.table)) ≡ 0
