use Rattle.std.proofs.Common.{refl}
use Rattle.lin_text.proofs.Growing.{grows-nothing}
use Rattle.lin_export.proofs.Puttings.{puts-all}
use Rattle.lin_tool.proofs.CampaignTexts.{puts-behind}
use Rattle.lin_tool.proofs.campaign.Campaign.put_head.Goals as goal

pub returns-in-Text : goal.returns-in-Text
returns-in-Text g c = rw c.in-Text.is (puts-all refl (grows-nothing c.args.out.now))

pub returns-in-Csv : goal.returns-in-Csv
returns-in-Csv g c = rw c.in-Csv.is (puts-all refl c.put_head.ensures)

pub returns-in-Jsonl : goal.returns-in-Jsonl
returns-in-Jsonl g c = rw c.in-Jsonl.is c.put_first.ensures

pub returns-in-Junit : goal.returns-in-Junit
returns-in-Junit g c = rw c.in-Junit.is (puts-all refl (rw c.cases.ensures at c.put_head-in-Junit.ensures))

pub returns-in-Html : goal.returns-in-Html
returns-in-Html g c = rw c.in-Html.is (puts-behind c.put_text.ensures (puts-behind c.put_head-in-Html.ensures c.put_object.ensures))
