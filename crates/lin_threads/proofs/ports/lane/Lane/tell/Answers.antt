use Rattle.std.proofs.Common.{inl, inr, ap, length, arith}
use Rattle.lin_threads.proofs.ports.lane.Lane.tell.Goals as goal

pub returns-clause-until : goal.returns-clause-until
returns-clause-until c =
    let seen = c.loop-at.invariant.seen in
    inr (inl (omega (arith, ap length c.log-log.ensures.entries)))
