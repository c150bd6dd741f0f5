use Rattle.std.proofs.Common.{arith}
use Rattle.lin_tool.proofs.placing.Moment.at.Goals as goal

pub on_to-requires-else-read-entries-clause-told : goal.on_to-requires-else-read-entries-clause-told
on_to-requires-else-read-entries-clause-told c = c.new.ensures c.args.cluster.now

pub on_to-requires-else-read-entries-clause-time : goal.on_to-requires-else-read-entries-clause-time
on_to-requires-else-read-entries-clause-time c = rw (c.new.ensures c.args.cluster.now) (omega arith)

pub on_to-requires-else-read-entries-clause-slots : goal.on_to-requires-else-read-entries-clause-slots
on_to-requires-else-read-entries-clause-slots c = rw (c.new.ensures c.args.cluster.now) (omega arith)
