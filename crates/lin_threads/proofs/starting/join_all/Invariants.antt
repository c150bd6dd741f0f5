use Rattle.std.proofs.Common.{◌≡◌, ◌≤◌, ◌+◌, vec_len}
use Rattle.std.specs.List.{AllZip}
use Rattle.std.specs.Vec.{vec_capacity}
use Rattle.std.specs.Vec.Iter.{into_iter_len}
use Rattle.lin_threads.specs.Nodes.{IsByList}
use Rattle.lin_threads.specs.Started.{all_lent, all_lists}
use Rattle.lin_threads.specs.States.{IsReceiptFrom}
use Rattle.lin_threads.proofs.starting.join_all.Given as goal

abbrev pub invariant-loop-handle : goal.invariant-loop-handle
invariant-loop-handle g l = record {
  receipts : AllZip IsReceiptFrom (all_lent l.yielded) l.receipts.items;
  lists : AllZip IsByList (all_lists l.yielded) l.receipts.items;
  ended : vec_len l.ended + into_iter_len l.handle-iterator ≡ vec_len l.fn.started;
  more : vec_len l.receipts ≡ vec_len l.ended;
  room : (vec_len l.fn.started ≤ vec_capacity l.receipts) × (vec_len l.fn.started ≤ vec_capacity l.ended);
}
