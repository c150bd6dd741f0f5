use Rattle.lin_text.proofs.Growing.{grows-nothing}
use Rattle.lin_tool.proofs.campaign.csv_rows.put_head.Goals as goal

pub returns-then-not-is_first : goal.returns-then-not-is_first
returns-then-not-is_first g c = rw c.if-not-is_first.true (grows-nothing c.args.out.now)

pub returns : goal.returns
returns g c = rw c.if-not-is_first.false c.put_text.ensures
