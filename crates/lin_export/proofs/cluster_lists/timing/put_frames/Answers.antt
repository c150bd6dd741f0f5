use Rattle.std.proofs.Common.{arith}
use Rattle.lin_text.proofs.Growing.{grows-nothing}
use Rattle.lin_export.specs.ListedTiming.{frame_timing_text}
use Rattle.lin_export.proofs.NumberedLines.{lines-next}
use Rattle.lin_export.proofs.cluster_lists.timing.put_frames.Goals as goal

pub loop-frame-init : goal.loop-frame-init
loop-frame-init g c = grows-nothing c.args.out.now

pub loop-frame-preserved : goal.loop-frame-preserved
loop-frame-preserved g c = lines-next (frame_timing_text c.args.cluster.now c.args.table) c.args.timings.now c.loop-frame.frame _ (omega arith) c.loop-frame.invariant c.put_frame.ensures
