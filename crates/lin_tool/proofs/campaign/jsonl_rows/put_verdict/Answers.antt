use Rattle.lin_log.proofs.Ends.{grows-last}
use Rattle.lin_text.proofs.Growing.{grows-more}
use Rattle.std.proofs.Common.{refl}
use Rattle.lin_export.proofs.Puttings.{puts-all}
use Rattle.lin_tool.proofs.campaign.jsonl_rows.put_verdict.Goals as goal

pub returns-in-Tolerated : goal.returns-in-Tolerated
returns-in-Tolerated g c = rw c.in-Tolerated.is c.put_outcome.ensures

pub returns-in-Broken : goal.returns-in-Broken
returns-in-Broken g c = rw c.in-Broken.is c.put_outcome-in-Broken.ensures

pub returns-in-Limit : goal.returns-in-Limit
returns-in-Limit g c = rw c.in-Limit.is (puts-all refl (grows-more c.put_text.ensures (grows-last c.put_member.ensures)))
