use Rattle.std.proofs.Common.{◌≡◌, ◌+◌, ◌≤◌, length}
use Rattle.lin_log.specs.Judged.{with_prefix}
use Rattle.lin_log.specs.Script.{script}
use Rattle.lin_log.specs.Judged.{left_length, steps_left}
use Rattle.lin_log.proofs.script.judge.Given as goal

abbrev pub invariant-loop-steps : goal.invariant-loop-steps
invariant-loop-steps l = record {
  read : with_prefix l.steps.items (steps_left l.lines) ≡ script l.fn.bytes;
  few : l.lines.number + left_length l.lines.left ≤ length l.fn.bytes + 2;
  each : length l.steps.items + 1 ≤ l.lines.number;
  most : length l.fn.bytes ≤ 16777216;
}

abbrev pub decreases-loop-steps : goal.decreases-loop-steps
decreases-loop-steps l = left_length l.lines.left
