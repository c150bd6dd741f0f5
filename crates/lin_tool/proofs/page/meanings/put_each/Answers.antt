use Rattle.lin_text.proofs.Growing.{grows-nothing}
use Rattle.lin_export.proofs.ListedLines.{grows-number}
use Rattle.lin_tool.specs.PageMeanings.{meaning_lines}
use Rattle.lin_tool.proofs.page.meanings.put_each.Goals as goal

pub loop-signal-init : goal.loop-signal-init
loop-signal-init g c = grows-nothing c.args.out.now

pub loop-signal-preserved : goal.loop-signal-preserved
loop-signal-preserved g c = grows-number (meaning_lines c.args.coded.now) c.loop-signal.signal c.loop-signal.invariant c.put_meanings.ensures
