use Rattle.std.proofs.Common.{arith}
use Rattle.std.specs.Prelude.{option_map}
use Rattle.lin_text.proofs.Growing.{grows-next}
use Rattle.lin_export.specs.NamedWords.{event_text}
use Rattle.lin_export.specs.Open.{tracked_slot}
use Rattle.lin_export.specs.WhereTold.{given_coding}
use Rattle.lin_export.proofs.named.put_events.Goals as goal

pub loop-event-preserved : goal.loop-event-preserved
loop-event-preserved g c =
    grows-next (event_text c.args.cluster.now (given_coding c.args.coded) (option_map tracked_slot c.args.slot.now))
    c.args.events.now c.loop-event.event-index c.event-item.result c.event-item.is (omega arith) c.loop-event.invariant c.put_lines.ensures
