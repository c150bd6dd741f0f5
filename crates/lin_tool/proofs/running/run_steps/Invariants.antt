use Rattle.std.proofs.Common.{◌≡◌, ◌+◌, length, vec_len}
use Rattle.lin_tool.proofs.running.run_steps.Given as goal

abbrev pub invariant-loop-steps : goal.invariant-loop-steps
invariant-loop-steps g l = vec_len l.tasks + length l.steps-iterator.rest.items ≡ vec_len l.fn.lists
