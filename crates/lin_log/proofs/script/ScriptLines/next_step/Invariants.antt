use Rattle.std.proofs.Common.{◌≡◌, ◌+◌, ◌≤◌}
use Rattle.lin_log.specs.Judged.{left_length, steps_left}
use Rattle.lin_log.proofs.script.ScriptLines.next_step.Given as goal

abbrev pub invariant-loop-self : goal.invariant-loop-self
invariant-loop-self l = record {
  same : steps_left l.self ≡ steps_left l.fn.self;
  bound : l.self.number + left_length l.self.left ≤ l.fn.self.number + left_length l.fn.self.left;
  later : l.fn.self.number ≤ l.self.number;
  few : l.fn.self.number + left_length l.fn.self.left ≤ 16777218;
}

abbrev pub decreases-loop-self : goal.decreases-loop-self
decreases-loop-self l = left_length l.self.left
