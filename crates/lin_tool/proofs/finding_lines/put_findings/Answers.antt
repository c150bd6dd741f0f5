use Rattle.std.proofs.Common.{sym, arith}
use Rattle.lin_text.proofs.Growing.{grows-more, grows-nothing, same-growth, texts-next}
use Rattle.lin_tool.specs.Telling.{finding_line}
use Rattle.lin_tool.proofs.finding_lines.put_findings.Goals as goal

pub loop-finding-init : goal.loop-finding-init
loop-finding-init g c = grows-nothing c.args.out.now

pub loop-finding-preserved : goal.loop-finding-preserved
loop-finding-preserved g c =
    same-growth (sym (texts-next finding_line c.args.findings.now c.loop-finding.finding-index _ (omega arith)))
    (grows-more c.loop-finding.invariant c.put_reported.ensures)
