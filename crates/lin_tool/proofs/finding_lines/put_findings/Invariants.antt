use Rattle.std.proofs.Common.{take, flat_map}
use Rattle.lin_text.specs.Written.{Grows}
use Rattle.lin_tool.specs.Telling.{finding_line}
use Rattle.lin_tool.proofs.finding_lines.put_findings.Given as goal

abbrev pub invariant-loop-finding : goal.invariant-loop-finding
invariant-loop-finding g l = Grows g.W.Write.contents l.initial.out l.out (flat_map finding_line (take l.finding-index l.findings))
