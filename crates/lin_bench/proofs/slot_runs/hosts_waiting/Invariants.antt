use Rattle.std.proofs.Common.{◌≡◌, ℕ, nat_lt, length, map}
use Rattle.std.specs.Prelude.{filter}
use Rattle.lin_frame.specs.Words.{numbers}
use Rattle.lin_core.specs.Core.{past_of}
use Rattle.lin_core.specs.Links.{waiting}
use Rattle.lin_bench.proofs.slot_runs.hosts_waiting.Given as goal

abbrev pub invariant-loop-host : goal.invariant-loop-host
invariant-loop-host l = l.hosts.items ≡ filter (λ (h : ℕ × ℕ). nat_lt 0 h.1) (map (λ h. (h, length (waiting l.core.cluster (past_of l.core) h))) (numbers l.host))
