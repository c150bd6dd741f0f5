use Rattle.std.proofs.Common.{arith}
use Rattle.lin_schedule.proofs.Clusters.{table-length}
use Rattle.lin_schedule.proofs.walker.entry_after.Goals as goal

pub overflow_add-result : goal.overflow_add-result
overflow_add-result c =
    let lengths = table-length c.args.cluster.now c.requires.rules c.args.table c.requires.there.0 in
    omega (arith, lengths.1)
