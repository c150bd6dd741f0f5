use Rattle.lin_text.proofs.Growing.{grows-nothing}
use Rattle.lin_export.proofs.ListedLines.{grows-number}
use Rattle.lin_tool.specs.Page.{alone_line}
use Rattle.lin_tool.proofs.page.data.put_all_alone.Goals as goal

pub loop-signal-init : goal.loop-signal-init
loop-signal-init g c = grows-nothing c.args.out.now

pub loop-signal-preserved : goal.loop-signal-preserved
loop-signal-preserved g c = grows-number (alone_line c.args.cluster.now) c.loop-signal.signal c.loop-signal.invariant c.put_alone.ensures
