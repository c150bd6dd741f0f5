use Rattle.lin_text.proofs.Growing.{grows-nothing}
use Rattle.lin_export.specs.ListedFrames.{frame_lines}
use Rattle.lin_export.proofs.ListedLines.{grows-number}
use Rattle.lin_export.proofs.cluster_lists.frame_lines.put_unconditional.Goals as goal

pub loop-frame-init : goal.loop-frame-init
loop-frame-init g c = grows-nothing c.args.out.now

pub loop-frame-preserved : goal.loop-frame-preserved
loop-frame-preserved g c = grows-number (frame_lines c.args.cluster.now) c.loop-frame.frame c.loop-frame.invariant c.put_frame_lines.ensures
