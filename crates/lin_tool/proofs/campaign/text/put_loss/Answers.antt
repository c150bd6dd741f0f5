use Rattle.lin_text.proofs.Growing.{grows-more}
use Rattle.lin_tool.proofs.campaign.text.put_loss.Goals as goal

pub returns : goal.returns
returns g c =
    grows-more c.put_node_name.ensures
    (grows-more (rw c.from.ensures at c.put_numbered.ensures) (grows-more c.put_byte.ensures (rw c.word.ensures at c.put_text.ensures)))
