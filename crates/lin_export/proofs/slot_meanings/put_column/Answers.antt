use Rattle.lin_text.proofs.Growing.{grows-more}
use Rattle.lin_export.proofs.Objects.{grows-member}
use Rattle.lin_export.specs.Quantities.{column_key}
use Rattle.lin_export.proofs.slot_meanings.put_column.Goals as goal

pub returns : goal.returns
returns g c =
    grows-member (column_key c.args.column) (rw c.key.ensures at c.put_key.ensures)
    (grows-more c.put_byte.ensures (grows-more c.put_carried_meanings.ensures c.put_byte-2.ensures))
