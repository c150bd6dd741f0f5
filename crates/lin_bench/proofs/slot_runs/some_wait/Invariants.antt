use Rattle.std.proofs.Common.{◌≡◌, false, nat_lt, length}
use Rattle.std.specs.List.{list_any}
use Rattle.lin_frame.specs.Words.{numbers}
use Rattle.lin_core.specs.Core.{past_of}
use Rattle.lin_core.specs.Links.{waiting}
use Rattle.lin_bench.proofs.slot_runs.some_wait.Given as goal

abbrev pub invariant-loop-host : goal.invariant-loop-host
invariant-loop-host l = list_any (λ h. nat_lt 0 (length (waiting l.core.cluster (past_of l.core) h))) (numbers l.host) ≡ false
