use Rattle.std.proofs.Common.{[], length, refl, sym, ap, arith}
use Rattle.std.proofs.lemmas.List.Elements.{All-head, All-rest, All-same, All-weaker}
use Rattle.std.specs.Vec.Iter.{into_iter_items}
use Rattle.lin_threads.specs.Runs.{IsSettledAs, IsWiredReceipt}
use Rattle.lin_threads.proofs.RunLemmas.{advances_refl, advances_trans, all_stay, wired_kept}
use Rattle.lin_threads.proofs.StateLemmas.{zip_push}
use Rattle.lin_threads.proofs.ending.settle_all.Goals as goal

pub loop-receipt-init : goal.loop-receipt-init
loop-receipt-init g c =
    let gives = c.into_iter-receipt-iterator.ensures.into_iter_gives in
    let pump = c.args.pump.now in
    let ok = c.args.settled.now.ok in record {
      advances = advances_refl pump;
      settled = rw c.requires.none tt;
      wired = All-same (IsWiredReceipt pump) (into_iter_items c.into_iter-receipt-iterator.result) c.args.receipts.items gives.0 c.requires.wired;
      room = omega (arith, ap length c.requires.none);
    }

pub settle_whole-requires : goal.settle_whole-requires
settle_whole-requires g c =
    let wired = IsWiredReceipt c.loop-receipt.pump in
    All-head wired c.in-Some.receipt (into_iter_items c.next.new.self) (All-same wired _ _ (sym c.in-Some.ensures.steps.0) c.loop-receipt.invariant.wired)

pub loop-receipt-preserved : goal.loop-receipt-preserved
loop-receipt-preserved g c =
    let inv = c.loop-receipt.invariant in
    let before = c.loop-receipt.pump in
    let after = c.settle_whole.new.pump in
    let whole = c.in_ok-whole.ensures in
    let rest = All-rest (IsWiredReceipt before) c.in-Some.receipt (into_iter_items c.next.new.self) (into_iter_items c.loop-receipt.receipt-iterator) c.in-Some.ensures.steps.0 inv.wired in
    let room = inv.room in
    let count = c.in-Some.ensures.steps.1 in
    record {
      advances = advances_trans c.args.pump.now before after [] [] inv.advances whole.advances;
      settled = rw c.push_reserved.ensures.items (zip_push (IsSettledAs after) c.loop-receipt.yielded c.loop-receipt.settled.items c.in-Some.receipt c.in_ok-whole.whole
          (all_stay before after c.loop-receipt.yielded c.loop-receipt.settled.items whole.advances.stays inv.settled) whole.settled);
      wired = All-weaker (IsWiredReceipt before) (IsWiredReceipt after) (λ r h. wired_kept before after r r whole.advances.pump refl h) (into_iter_items c.next.new.self) rest;
      room = omega (arith, c.push_reserved.ensures.len, c.push_reserved.ensures.capacity);
    }
