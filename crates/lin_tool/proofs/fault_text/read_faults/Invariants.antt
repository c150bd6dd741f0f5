use Rattle.std.proofs.Common.{◌≡◌}
use Rattle.lin_tool.specs.FaultText.{faults_left, length_left, read_all, read_faults}
use Rattle.lin_tool.proofs.FaultTexts.{after_faults}
use Rattle.lin_tool.proofs.fault_text.read_faults.Given as goal

abbrev pub invariant-loop-left : goal.invariant-loop-left
invariant-loop-left l = read_faults l.fn.cluster l.fn.text ≡ after_faults l.faults.items (read_all l.fn.cluster (faults_left l.left))

abbrev pub decreases-loop-left : goal.decreases-loop-left
decreases-loop-left l = length_left l.left
