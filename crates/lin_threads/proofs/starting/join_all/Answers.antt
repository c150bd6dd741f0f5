use Rattle.std.proofs.Common.{[], ◌∷◌, arith}
use Rattle.std.proofs.lemmas.List.{map-append}
use Rattle.std.specs.declared.thread.PromisedHandle.{PromisedHandle}
use Rattle.lin_threads.specs.Nodes.{IsByList}
use Rattle.lin_threads.specs.Started.{all_lent, all_lists, lent, list_lent}
use Rattle.lin_threads.specs.States.{IsReceiptFrom}
use Rattle.lin_threads.specs.declared.starting.Finished.{Finished}
use Rattle.lin_threads.specs.declared.starting.Keeps.{Keeps}
use Rattle.lin_threads.proofs.StateLemmas.{zip_push}
use Rattle.lin_threads.proofs.starting.join_all.Goals as goal

pub loop-handle-preserved : goal.loop-handle-preserved
loop-handle-preserved g c =
    let inv = c.loop-handle.invariant in
    let receipt = c.push_reserved.ensures in
    let ended = c.push_reserved-in-loop-handle.ensures in
    let left = c.in-Some.ensures.steps.1 in
    let before = inv.ended in
    let more = inv.more in
    let room = inv.room in
    record {
      receipts = rw (map-append (λ (h : PromisedHandle Finished Keeps). lent h.promise) c.loop-handle.yielded (c.in-Some.handle ∷ []), receipt.items)
          (zip_push IsReceiptFrom (all_lent c.loop-handle.yielded) c.loop-handle.receipts.items (lent c.in-Some.handle.promise) c.join-finished.result.receipt inv.receipts c.join-finished.ensures.0);
      lists = rw (map-append (λ (h : PromisedHandle Finished Keeps). list_lent h.promise) c.loop-handle.yielded (c.in-Some.handle ∷ []), receipt.items)
          (zip_push IsByList (all_lists c.loop-handle.yielded) c.loop-handle.receipts.items (list_lent c.in-Some.handle.promise) c.join-finished.result.receipt inv.lists c.join-finished.ensures.1);
      ended = omega (arith, ended.len);
      more = omega (arith, receipt.len, ended.len);
      room = (omega (arith, receipt.capacity, room.0), omega (arith, ended.capacity, room.1));
    }
