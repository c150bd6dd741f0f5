use Rattle.std.proofs.Common.{◌≡◌, take}
use Rattle.lin_core.specs.Runs.{steps_of}
use Rattle.lin_bench.proofs.ruled.first_steps.Given as goal

abbrev pub invariant-loop-index : goal.invariant-loop-index
invariant-loop-index l = l.steps.items ≡ steps_of (take l.index l.fn.log.entries)
