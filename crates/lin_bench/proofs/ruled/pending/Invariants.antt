use Rattle.std.proofs.Common.{◌≡◌, ◌++◌, ℕ, map}
use Rattle.lin_core.specs.Core.{past_of}
use Rattle.lin_bench.specs.Slots.{hosts_waiting}
use Rattle.lin_bench.specs.declared.got.Pending.TheVariants.{MessagesWait}
use Rattle.lin_bench.proofs.ruled.pending.Given as goal

abbrev pub invariant-loop-host : goal.invariant-loop-host
invariant-loop-host l = record {
  all : l.all.items ≡ map (λ (h : ℕ × ℕ). MessagesWait h.0 h.1) l.yielded;
  whole :
      l.yielded ++ l.host-iterator.rest.items
      ≡ hosts_waiting l.ruled.core.cluster (past_of l.ruled.core);
}
