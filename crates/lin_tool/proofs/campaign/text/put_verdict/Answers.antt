use Rattle.lin_text.proofs.Growing.{grows-more}
use Rattle.lin_tool.proofs.campaign.text.put_verdict.Goals as goal

pub returns-in-Tolerated : goal.returns-in-Tolerated
returns-in-Tolerated g c = rw c.in-Tolerated.is (grows-more c.put_text.ensures c.put_rest.ensures)

pub returns-in-Broken : goal.returns-in-Broken
returns-in-Broken g c = rw c.in-Broken.is (grows-more (rw c.as_slice.ensures at c.put_unmet.ensures) c.put_rest-in-Broken.ensures)

pub returns-in-Limit : goal.returns-in-Limit
returns-in-Limit g c = rw c.in-Limit.is (grows-more c.put_text-in-Limit.ensures c.put_number.ensures)
