use Rattle.std.proofs.Common.{take, flat_map}
use Rattle.lin_text.specs.Written.{Grows}
use Rattle.lin_export.specs.Jsonl.{event_line}
use Rattle.lin_export.proofs.jsonl.put_events.Given as goal

abbrev pub invariant-loop-event : goal.invariant-loop-event
invariant-loop-event g l = Grows g.W.Write.contents l.initial.out l.out (flat_map (event_line l.cluster l.step l.moment.slot l.moment.at) (take l.event-index l.events))
