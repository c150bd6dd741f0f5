use Rattle.std.proofs.Common.{subst, arith}
use Rattle.lin_schedule.specs.Carriers.{Carriers}
use Rattle.lin_schedule.specs.Walk.{IsWorst}
use Rattle.lin_schedule.proofs.Bounds.{least-first, least-whole}
use Rattle.lin_schedule.proofs.once.once_wait.Goals as goal

pub loop-sporadic-init : goal.loop-sporadic-init
loop-sporadic-init c =
    least-first c.args.cluster.now c.args.table c.args.frames.now c.in_ok-least.least
    (subst (λ (k : Carriers). IsWorst c.args.cluster.now c.args.table k 1 c.in_ok-least.least) c.in_ok-awaited.ensures c.in_ok-least.ensures)

pub returns : goal.returns
returns c =
    least-whole c.args.cluster.now c.args.table c.args.frames.now c.loop-sporadic.sporadic c.loop-sporadic.least c.loop-sporadic.invariant
    (omega (arith, c.sporadics-sporadic-end.ensures.number, c.loop-sporadic-test.false))
