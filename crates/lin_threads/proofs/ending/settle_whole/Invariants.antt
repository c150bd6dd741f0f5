use Rattle.std.proofs.Common.{[]}
use Rattle.lin_threads.specs.Settled.{SameReceipt}
use Rattle.lin_threads.specs.Runs.{Advances, IsWiredReceipt}
use Rattle.lin_threads.proofs.ending.settle_whole.Given as goal

abbrev pub invariant-loop : goal.invariant-loop
invariant-loop g l = record {
  advances : Advances l.initial.pump l.pump [];
  same : SameReceipt l.initial.receipt l.receipt;
  wired : IsWiredReceipt l.pump l.receipt;
}
