use Rattle.lin_text.proofs.Growing.{grows-nothing}
use Rattle.lin_export.specs.ListedFrames.{sporadic_line}
use Rattle.lin_export.proofs.ListedLines.{grows-number}
use Rattle.lin_export.proofs.cluster_lists.frame_lines.put_sporadics.Goals as goal

pub loop-sporadic-init : goal.loop-sporadic-init
loop-sporadic-init g c = grows-nothing c.args.out.now

pub loop-sporadic-preserved : goal.loop-sporadic-preserved
loop-sporadic-preserved g c = grows-number (sporadic_line c.args.cluster.now) c.loop-sporadic.sporadic c.loop-sporadic.invariant c.put_sporadic.ensures
