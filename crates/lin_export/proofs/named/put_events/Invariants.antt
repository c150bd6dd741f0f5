use Rattle.std.proofs.Common.{take, flat_map}
use Rattle.std.specs.Prelude.{option_map}
use Rattle.lin_text.specs.Written.{Grows}
use Rattle.lin_export.specs.NamedWords.{event_text}
use Rattle.lin_export.specs.Open.{tracked_slot}
use Rattle.lin_export.specs.WhereTold.{given_coding}
use Rattle.lin_export.proofs.named.put_events.Given as goal

abbrev pub invariant-loop-event : goal.invariant-loop-event
invariant-loop-event g l = Grows g.W.Write.contents l.initial.out l.out (flat_map (event_text l.cluster (given_coding l.coded) (option_map tracked_slot l.slot)) (take l.event-index l.events))
