use Rattle.std.proofs.Common.{◌≤◌, length, arith}
use Rattle.lin_parts.specs.declared.description.EventFrame.{EventFrame}
use Rattle.lin_cluster.specs.Described.{described_event}
use Rattle.lin_cluster.proofs.Enumerated.{both-pushed}
use Rattle.lin_cluster.proofs.described.frames.events_of.Goals as goal

pub loop-event-preserved : goal.loop-event-preserved
loop-event-preserved c =
    both-pushed (described_event c.args.d.now) (λ (x : EventFrame). 1 ≤ length x.members) c.args.events.now c.loop-event.event-index c.event-item.result c.in_ok-event_of.field-0 c.loop-event.made.items c.push.new.self.items
    (omega arith) c.event-item.is c.in_ok-event_of.ensures.made c.in_ok-event_of.ensures.some c.loop-event.invariant c.in_ok-push.ensures.items
