use Rattle.std.proofs.Common.{subst}
use Rattle.lin_core.specs.kept.Slots.{HasDue}
use Rattle.lin_core.proofs.slots.ClusterFrames.{event-there}
use Rattle.lin_core.proofs.due.is_due_of.Goals as goal

pub publishes_pending-requires-clause-there : goal.publishes_pending-requires-clause-there
publishes_pending-requires-clause-there c = rw c.event_frames.ensures (event-there c.args.cluster.now c.in-Event.event c.sound.ensures.rules (subst (HasDue c.args.cluster.now) c.in-Event.is c.requires.there))
