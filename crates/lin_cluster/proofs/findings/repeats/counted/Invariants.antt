use Rattle.std.proofs.Common.{take}
use Rattle.lin_cluster.specs.FindingsRepeats.{CountsUses}
use Rattle.lin_cluster.proofs.findings.repeats.counted.Given as goal

abbrev pub invariant-loop-id : goal.invariant-loop-id
invariant-loop-id l = CountsUses (take l.id-index l.ids) l.uses
