use Rattle.std.proofs.Common.{◌+◌, ◌≤◌, length}
use Rattle.lin_core.specs.Core.{IsAlike}
use Rattle.lin_log.specs.Judged.{left_length, steps_left}
use Rattle.lin_log.specs.Script.{script}
use Rattle.lin_log.proofs.Judging.{AreMade}
use Rattle.lin_log.proofs.replaying.make_steps.Given as goal

abbrev pub invariant-loop-fault : goal.invariant-loop-fault
invariant-loop-fault l = record {
  made : AreMade l.fn.core.cluster l.fn.core.opening l.fn.core.capacity l.core.log (steps_left l.lines) (script l.fn.bytes);
  alike : IsAlike l.fn.core l.core;
  few : l.lines.number + left_length l.lines.left ≤ length l.fn.bytes + 2;
  each : length l.core.log + 1 ≤ l.lines.number;
  most : length l.fn.bytes ≤ 16777216;
}

abbrev pub decreases-loop-fault : goal.decreases-loop-fault
decreases-loop-fault l = left_length l.lines.left
