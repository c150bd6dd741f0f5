use Rattle.std.proofs.Common.{rules}
use Rattle.lin_export.specs.declared.fault.ExportFault.{ExportFault}
use Rattle.lin_text.proofs.Growing.{grows-nothing}
use Rattle.lin_export.proofs.Puttings.{same-writer, written-part, written-whole}
use Rattle.lin_tool.proofs.junit.write_suite.Goals as goal

pub returns-in_err-finish : goal.returns-in_err-finish
returns-in_err-finish g c =
    let same = same-writer g.W.Write.contents _ _ _ _ _ _ _ c.new-out.ensures (grows-nothing _) c.put_suite-put.ensures in
    let written =
    written-part g.W.Write.contents _ _ _ _ _ _ _ _ _ _ c.from_residual.ensures.0 c.new-out.ensures (grows-nothing _) c.put_suite-put.ensures c.finish.ensures in
    search rules

pub returns-in_err-put : goal.returns-in_err-put
returns-in_err-put g c =
    let same = same-writer g.W.Write.contents _ _ _ _ _ _ _ c.new-out.ensures (grows-nothing _) c.put_suite-put.ensures in
    let written =
    written-part g.W.Write.contents _ _ _ _ _ _ _ _ _ _ c.from_residual-in_err-put.ensures.0 c.new-out.ensures (grows-nothing _) c.put_suite-put.ensures c.finish.ensures in
    search rules

pub returns : goal.returns
returns g c =
    let same = same-writer g.W.Write.contents _ _ _ _ _ _ _ c.new-out.ensures (grows-nothing _) c.put_suite-put.ensures in
    let written =
    written-whole ExportFault _ g.W.Write.contents _ _ _ _ _ _ _ c.new-out.ensures (grows-nothing _) (rw c.in_ok-put.was at c.put_suite-put.ensures)
    (rw c.in_ok-finish.was at c.finish.ensures) in
    search rules
