use Rattle.std.proofs.Common.{◌≡◌, take}
use Rattle.std.specs.List.{All}
use Rattle.lin_core.specs.Runs.{steps_of}
use Rattle.lin_log.specs.Laws.{FitsEntry}
use Rattle.lin_log.proofs.log_steps.steps_of.Given as goal

abbrev pub invariant-loop-index : goal.invariant-loop-index
invariant-loop-index l = record {
  same : l.steps.items ≡ steps_of (take l.index l.fn.log.entries);
  fits : All FitsEntry (take l.index l.fn.log.entries);
}
