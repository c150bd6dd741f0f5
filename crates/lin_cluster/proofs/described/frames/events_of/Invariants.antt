use Rattle.std.proofs.Common.{◌≡◌, ◌≤◌, length, map, take}
use Rattle.std.specs.Prelude.{All}
use Rattle.lin_parts.specs.declared.description.EventFrame.{EventFrame}
use Rattle.lin_cluster.specs.Described.{described_event}
use Rattle.lin_cluster.proofs.described.frames.events_of.Given as goal

abbrev pub invariant-loop-event : goal.invariant-loop-event
invariant-loop-event l = (l.made.items ≡ map (described_event l.d) (take l.event-index l.events)) × All (λ (x : EventFrame). 1 ≤ length x.members) (take l.event-index l.events)
