use Rattle.std.proofs.Common.{subst}
use Rattle.lin_parts.specs.Rules.{IsEntry}
use Rattle.lin_schedule.proofs.walker.resolving_table.Goals as goal

pub event_table-requires : goal.event_table-requires
event_table-requires c = subst (IsEntry c.args.cluster.now) c.in-Event.is c.requires.there
