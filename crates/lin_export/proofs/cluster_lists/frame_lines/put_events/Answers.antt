use Rattle.lin_text.proofs.Growing.{grows-nothing}
use Rattle.lin_export.specs.ListedFrames.{event_line}
use Rattle.lin_export.proofs.ListedLines.{grows-number}
use Rattle.lin_export.proofs.cluster_lists.frame_lines.put_events.Goals as goal

pub loop-event-init : goal.loop-event-init
loop-event-init g c = grows-nothing c.args.out.now

pub loop-event-preserved : goal.loop-event-preserved
loop-event-preserved g c = grows-number (event_line c.args.cluster.now) c.loop-event.event c.loop-event.invariant c.put_event.ensures
