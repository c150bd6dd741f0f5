use Rattle.lin_text.proofs.Growing.{grows-more}
use Rattle.lin_field.proofs.plain.put_block.Goals as goal

pub returns : goal.returns
returns g c =
    grows-more (rw c.as_slice.ensures at c.put_between.ensures)
    (grows-more c.put_protocol.ensures (grows-more c.put_nad.ensures (grows-more c.put_attributes.ensures c.put_text.ensures)))
