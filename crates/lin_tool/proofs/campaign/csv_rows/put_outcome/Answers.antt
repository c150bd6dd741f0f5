use Rattle.lin_log.proofs.Ends.{grows-last}
use Rattle.lin_text.proofs.Growing.{grows-more}
use Rattle.lin_tool.proofs.campaign.csv_rows.put_outcome.Goals as goal

pub returns : goal.returns
returns g c =
    grows-more (grows-more c.put_byte.ensures c.put_text.ensures)
    (grows-more (grows-more c.put_byte-2.ensures (rw c.as_slice.ensures at c.put_lines.ensures))
    (grows-more (grows-more c.put_byte-3.ensures (rw c.as_slice-2.ensures at c.put_losses.ensures))
    (grows-more (grows-more c.put_byte-4.ensures (rw c.as_slice-3.ensures at c.put_refusals.ensures))
    (grows-more (grows-more c.put_byte-5.ensures c.put_number.ensures)
    (grows-more c.put_numbered.ensures (grows-last (grows-more c.put_byte-6.ensures c.put_number-2.ensures)))))))
