use Rattle.lin_text.proofs.Growing.{grows-more}
use Rattle.lin_tool.proofs.campaign.jsonl_rows.put_line_number.Goals as goal

pub returns : goal.returns
returns g c = grows-more c.put_text.ensures c.put_number.ensures
