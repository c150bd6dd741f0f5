use Rattle.std.proofs.Common.{flat_map}
use Rattle.lin_frame.specs.Words.{numbers}
use Rattle.lin_text.specs.Written.{Grows}
use Rattle.lin_export.specs.ListedFrames.{event_line}
use Rattle.lin_export.proofs.cluster_lists.frame_lines.put_events.Given as goal

abbrev pub invariant-loop-event : goal.invariant-loop-event
invariant-loop-event g l = Grows g.W.Write.contents l.initial.out l.out (flat_map (event_line l.fn.cluster) (numbers l.event))
