use Rattle.std.proofs.Common.{refl}
use Rattle.lin_export.proofs.Puttings.{puts-all}
use Rattle.lin_tool.proofs.campaign.junit.put_end.Goals as goal

pub returns-in-Tolerated : goal.returns-in-Tolerated
returns-in-Tolerated g c = rw c.in-Tolerated.is (puts-all refl c.put_text.ensures)

pub returns-in-Broken : goal.returns-in-Broken
returns-in-Broken g c = rw c.in-Broken.is c.put_broken.ensures

pub returns-in-Limit : goal.returns-in-Limit
returns-in-Limit g c = rw c.in-Limit.is (puts-all refl c.put_limit.ensures)
