use Rattle.std.proofs.Common.{◌≤◌, ◌+◌, [], All, vec_len}
use Rattle.std.specs.List.{AllZip}
use Rattle.std.specs.Vec.{vec_capacity}
use Rattle.std.specs.Vec.Iter.{into_iter_items, into_iter_len}
use Rattle.lin_threads.specs.Runs.{Advances, IsSettledAs, IsWiredReceipt}
use Rattle.lin_threads.proofs.ending.settle_all.Given as goal

abbrev pub invariant-loop-receipt : goal.invariant-loop-receipt
invariant-loop-receipt g l = record {
  advances : Advances l.initial.pump l.pump [];
  settled : AllZip (IsSettledAs l.pump) l.yielded l.settled.items;
  wired : All (IsWiredReceipt l.pump) (into_iter_items l.receipt-iterator);
  room : vec_len l.settled + into_iter_len l.receipt-iterator ≤ vec_capacity l.settled;
}
