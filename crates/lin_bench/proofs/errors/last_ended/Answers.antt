use Rattle.lin_bench.proofs.ToldErrors.{ended-told, none-ended}
use Rattle.lin_bench.proofs.errors.last_ended.Goals as goal

pub returns-in-Some : goal.returns-in-Some
returns-in-Some c by past s fin =
    let kept = rw (c.in-Some.is, c.len.ensures.len, c.log-log.ensures.entries) at c.in_ok-slot.ensures in
    ended-told c.args.core.now by past s c.in-Some.slot c.newest.result.now c.ended_by.result fin kept c.newest.ensures
    (rw c.cluster.ensures at (c.ended_by.ensures s))

pub returns-in-None : goal.returns-in-None
returns-in-None c by past s fin =
    none-ended c.args.core.now by past s fin (rw (c.in-None.is, c.len.ensures.len, c.log-log.ensures.entries) at c.in_ok-slot.ensures)
