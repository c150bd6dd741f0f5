use Rattle.lin_text.proofs.Growing.{grows-more}
use Rattle.lin_tool.proofs.campaign.text.put_name.Goals as goal

pub returns : goal.returns
returns g c = grows-more c.put_faults.ensures c.put_place.ensures
