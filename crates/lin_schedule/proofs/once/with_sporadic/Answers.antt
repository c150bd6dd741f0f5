use Rattle.std.proofs.Common.{◌+◌, ℕ, Option, sym, subst}
use Rattle.lin_schedule.specs.Carriers.{Carriers}
use Rattle.lin_schedule.specs.Once.{IsLeastOf}
use Rattle.lin_schedule.specs.Walk.{IsWorst}
use Rattle.lin_schedule.proofs.Bounds.{least-ranked, least-unranked}
use Rattle.lin_schedule.proofs.once.with_sporadic.Goals as goal

pub returns-in_ok-wait-in-Some : goal.returns-in_ok-wait-in-Some
returns-in_ok-wait-in-Some c = λ former.
    subst (λ (x : Option ℕ). IsLeastOf c.args.cluster.now c.args.table c.args.frames.now (c.args.sporadic + 1) x) (sym c.lesser.ensures)
    (least-ranked c.args.cluster.now c.args.table c.args.frames.now c.args.sporadic c.in-Some.rank c.args.least c.in_ok-wait-in-Some.wait former
    c.requires.sporadic (sym c.in-Some.ensures.value)
    (subst (λ (k : Carriers). IsWorst c.args.cluster.now c.args.table k c.in-Some.rank c.in_ok-wait-in-Some.wait)
    c.in_ok-slots-in-Some.ensures c.in_ok-wait-in-Some.ensures))

pub returns-in-None : goal.returns-in-None
returns-in-None c = λ former.
    least-unranked c.args.cluster.now c.args.table c.args.frames.now c.args.sporadic c.args.least former (sym c.in-None.ensures.value)
