use Rattle.std.proofs.Common.{◌<◌, arith, length, sym}
use Rattle.lin_log.proofs.Runs.{steps-next_is}
use Rattle.lin_bench.proofs.ruled.first_steps.Goals as goal

pub loop-index-preserved : goal.loop-index-preserved
loop-index-preserved c =
    let es = c.args.log.now.entries in
    let i = c.loop-index.index in
    let e = c.entry-entry.result.now in
    let lt : i < length es = omega arith in
    rw (c.in_ok-push.ensures.items, c.loop-index.invariant, c.in_ok-copy.ensures.same) (sym (steps-next_is es i e c.entry-entry.ensures lt))
