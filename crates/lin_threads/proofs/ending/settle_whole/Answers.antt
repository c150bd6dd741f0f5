use Rattle.std.proofs.Common.{refl}
use Rattle.lin_threads.proofs.RunLemmas.{advances_refl, advances_round, advances_same, same_receipt, wired_kept}
use Rattle.lin_threads.proofs.RoundLemmas.{pump_trans}
use Rattle.lin_threads.proofs.ending.settle_whole.Goals as goal

pub loop-init : goal.loop-init
loop-init g c = record { advances = advances_refl _; same = record { wiring = refl; put = refl; took = refl }; wired = c.requires }

pub returns-in-Whole-clause-advances : goal.returns-in-Whole-clause-advances
returns-in-Whole-clause-advances g c = advances_same _ _ _ c.loop.invariant.advances c.settle.ensures.pump c.settle.ensures.stays c.settle.ensures.core

pub returns-in-Whole-clause-settled : goal.returns-in-Whole-clause-settled
returns-in-Whole-clause-settled g c =
    let found = c.in-Whole.ensures.settles in record {
      same = same_receipt c.args.receipt c.loop.receipt c.in-Whole.whole c.loop.invariant.same found.0;
      settled = found.2;
    }

pub loop-preserved : goal.loop-preserved
loop-preserved g c =
    let found = c.in-Left.ensures.settles in
    let looked = advances_same _ _ _ c.loop.invariant.advances c.settle.ensures.pump c.settle.ensures.stays c.settle.ensures.core in record {
      advances = advances_round _ _ _ c.round.ensures.adds.0 looked c.round.ensures.pump c.round.ensures.stays c.round.ensures.adds.1;
      same = same_receipt c.args.receipt c.loop.receipt c.in-Left.left c.loop.invariant.same found.0;
      wired = wired_kept c.loop.pump c.round.new.self c.loop.receipt c.in-Left.left (pump_trans _ _ _ c.settle.ensures.pump c.round.ensures.pump) found.0.wiring c.loop.invariant.wired;
    }
