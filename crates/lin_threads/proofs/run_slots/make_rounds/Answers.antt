use Rattle.std.proofs.Common.{◌+◌, arith}
use Rattle.lin_threads.proofs.RunLemmas.{advances_refl, advances_round, at_most_less, at_most_more, at_most_none}
use Rattle.lin_threads.proofs.run_slots.make_rounds.Goals as goal

pub loop-init : goal.loop-init
loop-init c = record { advances = advances_refl _; most = at_most_none c.args.pump.now }

pub returns-then-undecided-eq0-clause-advances : goal.returns-then-undecided-eq0-clause-advances
returns-then-undecided-eq0-clause-advances c = advances_round _ _ _ c.round.ensures.adds.0 c.loop.invariant.advances c.round.ensures.pump c.round.ensures.stays c.round.ensures.adds.1

pub returns-then-undecided-eq0-clause-most : goal.returns-then-undecided-eq0-clause-most
returns-then-undecided-eq0-clause-most c =
    let inv = c.loop.invariant in
    let test = c.loop-test.true in
    at_most_less (c.loop.counter + 1) c.args.rounds c.args.pump.now c.round.new.self (omega arith)
    (at_most_more c.loop.counter c.args.pump.now c.loop.pump c.round.new.self c.round.ensures.adds.0 inv.advances.pump c.round.ensures.adds.1 inv.most)

pub returns-clause-most : goal.returns-clause-most
returns-clause-most c = at_most_less c.loop.counter c.args.rounds c.args.pump.now c.loop.pump (let end = c.loop.auto.counter-end in omega arith) c.loop.invariant.most

pub loop-preserved : goal.loop-preserved
loop-preserved c =
    let inv = c.loop.invariant in record {
      advances = advances_round _ _ _ c.round.ensures.adds.0 inv.advances c.round.ensures.pump c.round.ensures.stays c.round.ensures.adds.1;
      most = at_most_more c.loop.counter c.args.pump.now c.loop.pump c.round.new.self c.round.ensures.adds.0 inv.advances.pump c.round.ensures.adds.1 inv.most;
    }
