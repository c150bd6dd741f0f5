use Rattle.std.proofs.Common.{arith}
use Rattle.lin_text.proofs.Growing.{grows-next}
use Rattle.lin_export.specs.Jsonl.{event_line}
use Rattle.lin_export.proofs.jsonl.put_events.Goals as goal

pub loop-event-preserved : goal.loop-event-preserved
loop-event-preserved g c =
    grows-next (event_line c.args.cluster.now c.args.step.now c.args.moment.slot c.args.moment.at) c.args.events.now c.loop-event.event-index c.event-item.result c.event-item.is (omega arith)
    c.loop-event.invariant c.put_event.ensures
