use Rattle.lin_export.proofs.Puttings.{puts-all}
use Rattle.lin_tool.specs.declared.junit.TheConstants.{TAIL}
use Rattle.lin_tool.proofs.CampaignTexts.{broke-before, grows-whole, puts-behind}
use Rattle.std.proofs.Common.{refl}
use Rattle.lin_text.proofs.Growing.{grows-more}
use Rattle.lin_tool.proofs.junit.put_report.Goals as goal

pub returns-in_err-put_suite : goal.returns-in_err-put_suite
returns-in_err-put_suite g c = puts-behind c.put_text.ensures (broke-before TAIL.now c.from_residual.ensures.0 c.put_suite.ensures)

pub returns : goal.returns
returns g c = puts-all refl (grows-more c.put_text.ensures (grows-more (grows-whole c.in_ok-put_suite.was c.put_suite.ensures) c.put_text-2.ensures))
